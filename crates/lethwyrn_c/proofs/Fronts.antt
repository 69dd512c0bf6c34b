-- Fronts: the bytes of a log's first entries grow by those of the next one, and stay as the log grows.
use Rattle.std.proofs.Common.{◌≡◌, ℕ, zero, suc, ◌+◌, ◌≤◌, ◌<◌, List, [], ◌∷◌, ◌++◌, length, take, refl, sym, ap, ◌∙◌, append_assoc, arith, get_or, length-append}
use Rattle.std.specs.Prelude.{Some, slice_get}
use Rattle.std.proofs.lemmas.List.{take-append-le, take_all}
use Rattle.std.proofs.lemmas.Option.{slice_get_within, slice_get-get_or}
use Rattle.std.proofs.lemmas.List.Sums.{fold_push}
use Rattle.definitions.specs.declared.logs.Entry.{Entry}
use Rattle.definition_laws.proofs.Listing.{append_nil, take_more}
use Rattle.session_log.specs.Spelling.{log_bytes}
use Rattle.session_log.specs.Writing.{Writing, after, all_after, all_written, fresh, written}
use Rattle.session_log.proofs.Logs.{log_written}
use Rattle.lethwyrn_c.specs.Fronts.{front, GoesOn, StandsAt}

written_more : (w : Writing) (es : List Entry) (e : Entry) → all_written w (es ++ e ∷ []) ≡ all_written w es ++ written (all_after w es) e
written_more w [] e = append_nil (written w e)
written_more w (d ∷ es) e = ap (λ xs. written w d ++ xs) (written_more (after w d) es e) ∙ sym (append_assoc (written w d) (all_written (after w d) es) (written (all_after (after w d) es) e))

-- the bytes of the first entries and of the next one
front_next : (id : List ℕ) (me : ℕ) (es : List Entry) (n : ℕ) (e : Entry) → slice_get es n ≡ Some e →
    front id me es (n + 1) ≡ front id me es n ++ written (all_after (fresh id me) (take n es)) e
front_next id me es n e at =
    let w : Writing = fresh id me in
    sym (log_written id me (take (n + 1) es)) ∙ (ap (all_written w) (take_more n es e at) ∙ (written_more w (take n es) e ∙
    ap (λ xs. xs ++ written (all_after w (take n es)) e) (log_written id me (take n es))))

-- a new writer stands at the front of every log
pub begins : (id : List ℕ) (me : ℕ) (es : List Entry) → StandsAt id me es 0 (fresh id me) 0
begins id me es = record { within = omega arith; writer_is = refl; count_is = refl }

-- a writer that wrote all of them stands at their end
pub stands_all : (id : List ℕ) (me : ℕ) (es : List Entry) (n : ℕ) (w : Writing) (count : ℕ) → n ≡ length es → w ≡ all_after (fresh id me) es → count ≡ length (log_bytes id me es) → StandsAt id me es n w count
stands_all id me es n w count all writer size =
    let same : take n es ≡ es = take_all n es (omega (arith, all)) in
    record {
      within = omega (arith, all);
      writer_is = writer ∙ ap (all_after (fresh id me)) (sym same);
      count_is = size ∙ ap (λ xs. length (log_bytes id me xs)) (sym same);
    }

-- what is written of the next entry are the log's next bytes
pub next_bytes : (id : List ℕ) (me : ℕ) (es : List Entry) (n : ℕ) (w : Writing) (count : ℕ) (e : Entry) → StandsAt id me es n w count → slice_get es n ≡ Some e →
    front id me es (n + 1) ≡ front id me es n ++ written w e
next_bytes id me es n w count e s at = front_next id me es n e at ∙ ap (λ u. front id me es n ++ written u e) (sym s.writer_is)

-- and the writer stands behind them
pub goes_on : (id : List ℕ) (me : ℕ) (es : List Entry) (n : ℕ) (w : Writing) (count : ℕ) (e : Entry) → StandsAt id me es n w count → slice_get es n ≡ Some e →
    StandsAt id me es (n + 1) (after w e) (count + length (written w e))
goes_on id me es n w count e s at =
    let v : Writing = fresh id me in
    let lt = slice_get_within es n e at in
    let sized = length-append (front id me es n) (written w e) in
    let long : length (front id me es (n + 1)) ≡ length (front id me es n ++ written w e) = ap length (next_bytes id me es n w count e s at) in
    let was = s.count_is in
    record {
      within = omega arith;
      writer_is = ap (λ u. after u e) s.writer_is ∙ (sym (fold_push after v (take n es) e) ∙ ap (all_after v) (sym (take_more n es e at)));
      count_is = omega arith;
    }

-- the bytes of the first entries stay as the log grows
pub front_stays : (id : List ℕ) (me : ℕ) (es more : List Entry) (n : ℕ) → n ≤ length es → front id me (es ++ more) n ≡ front id me es n
front_stays id me es more n le = ap (log_bytes id me) (take-append-le n es more le)

-- and so does the writer behind them
pub stays : (id : List ℕ) (me : ℕ) (es more : List Entry) (n : ℕ) (w : Writing) (count : ℕ) → StandsAt id me es n w count → StandsAt id me (es ++ more) n w count
stays id me es more n w count s =
    let l = length-append es more in
    let le = s.within in
    let same : take n (es ++ more) ≡ take n es = take-append-le n es more s.within in
    record {
      within = omega arith;
      writer_is = s.writer_is ∙ ap (all_after (fresh id me)) (sym same);
      count_is = s.count_is ∙ ap (λ xs. length (log_bytes id me xs)) (sym same);
    }

-- a writer that wrote the entry of this number stands behind it
pub stepped : (id : List ℕ) (me : ℕ) (es : List Entry) (n m k : ℕ) (w v : Writing) (count more size : ℕ) (d : Entry) → k < length es → n ≡ k → v ≡ after w (get_or es k d) →
    size ≡ length (written w (get_or es k d)) → m ≡ n + 1 → more ≡ count + size → StandsAt id me es n w count → StandsAt id me es m v more
stepped id me es n m k w v count more size d lt same writer sized next longer s =
    let e : Entry = get_or es k d in
    let on = goes_on id me es n w count e s (ap (slice_get es) same ∙ slice_get-get_or es k d lt) in
    let within = on.within in record {
      within = omega arith;
      writer_is = writer ∙ (on.writer_is ∙ ap (λ i. all_after (fresh id me) (take i es)) (sym next));
      count_is = (let q : more ≡ count + length (written w e) = omega arith in q) ∙ (on.count_is ∙ ap (λ i. length (front id me es i)) (sym next));
    }

-- the same, with what was written
pub went_on : (id : List ℕ) (me : ℕ) (es : List Entry) (n m : ℕ) (w v : Writing) (count more size : ℕ) (bytes : List ℕ) (d : Entry) → n < length es → v ≡ after w (get_or es n d) →
    bytes ≡ written w (get_or es n d) → size ≡ length (written w (get_or es n d)) → m ≡ n + 1 → more ≡ count + size → StandsAt id me es n w count → GoesOn id me es n m v more bytes
went_on id me es n m w v count more size bytes d lt writer is sized next longer s =
    let e : Entry = get_or es n d in record {
      stands = stepped id me es n m n w v count more size d lt refl writer sized next longer s;
      bytes_are = next_bytes id me es n w count e s (slice_get-get_or es n d lt) ∙ ap (λ xs. front id me es n ++ xs) (sym is);
    }

-- fewer entries have no more bytes
fewer : (w : Writing) (es : List Entry) (m n : ℕ) → m ≤ n → length (all_written w (take m es)) ≤ length (all_written w (take n es))
fewer w es zero n le = omega arith
fewer w es (suc m) zero le = absurd (omega (arith, le))
fewer w [] (suc m) (suc n) le = omega arith
fewer w (e ∷ es) (suc m) (suc n) le =
    let ih = fewer (after w e) es m n (omega (arith, le)) in
    let a = length-append (written w e) (all_written (after w e) (take m es)) in
    let b = length-append (written w e) (all_written (after w e) (take n es)) in
    omega arith

pub front_rises : (id : List ℕ) (me : ℕ) (es : List Entry) (m n : ℕ) → m ≤ n → length (front id me es m) ≤ length (front id me es n)
front_rises id me es m n le =
    let h = fewer (fresh id me) es m n le in
    let a = ap length (log_written id me (take m es)) in
    let b = ap length (log_written id me (take n es)) in
    omega arith
