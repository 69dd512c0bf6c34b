-- Standing: books stand for the streams.
use Rattle.std.proofs.Common.{◌≡◌, ℕ, zero, suc, ◌+◌, ◌-◌, ◌<◌, Bool, true, false, List, [], ◌∷◌, ◌++◌, length, refl, sym, ap, subst, ◌∙◌, append-nil, append_assoc, arith, slice_set}
use Rattle.std.specs.Prelude.{Option, Some, None, ◌==◌, replicate, slice_get}
use Rattle.std.proofs.lemmas.Bool.{eqb-true, eq-eqb, false≢true}
use Rattle.std.proofs.lemmas.List.{length-map, length-replicate, length-set, map-set, replicate-append-replicate, set-set}
use Rattle.std.proofs.lemmas.Option.{get_or_from_slice_get, slice_get_within}
use Rattle.plain_lemmas.proofs.Each.{each_get}
use Rattle.definitions.specs.declared.logs.Entry.{Entry}
use Rattle.definitions.specs.Lists.{item_or}
use Rattle.definitions.specs.World.{Game, players_of}
use Rattle.definition_laws.proofs.Listing.{slice_get_map}
use Rattle.evidence.proofs.Showing.{item_there}
use Rattle.frame_index.specs.declared.limits.TheConstants.{MOST_LOGS}
use Rattle.frame_index.specs.Appended.{with_entry}
use Rattle.agreed_turns.specs.States.{AgreedState, IsOf}
use Rattle.auditor.specs.Audits.{AuditState, IsAuditOf, count_in, owner_in, padded}
use Rattle.auditor.specs.Taking.{with_entries}
use Rattle.log_streams.specs.Streams.{Stream, count_of, entries_of, lists_of, no_stream, no_streams, owner_of, owners_of}
use Rattle.log_books.specs.declared.pages.Page.{Page}
use Rattle.log_books.specs.Heeding.{Heeds, IsOwn}
use Rattle.log_books.specs.Pages.{GoesOn, IsPageOf}
use Rattle.log_books.specs.Books.{AreNew, IsNewPage, StandFor}
use Rattle.log_books.proofs.Lists.{item_beside, repeated_is, repeated_item, repeated_map, same_get, set_beside, set_here, set_same}
use Rattle.log_streams.proofs.Pieces.{nothing_read}

-- ---- entries at the end of one of several logs

entry_at : (logs rest : List (List Entry)) (q : ℕ) (h : List Entry) (e : Entry) → slice_get logs q ≡ Some h → with_entry (logs ++ rest) q e ≡ slice_set logs q (h ++ e ∷ []) ++ rest
entry_at [] rest q h e g = absurd (cc)
entry_at (k ∷ logs) rest zero h e g = let same : k ≡ h = cc in ap (λ (x : List Entry). (x ++ e ∷ []) ∷ (logs ++ rest)) same
entry_at (k ∷ logs) rest (suc q) h e g = ap (λ ls. k ∷ ls) (entry_at logs rest q h e g)

pub entries_at : (es : List Entry) (logs rest : List (List Entry)) (q : ℕ) (h : List Entry) → slice_get logs q ≡ Some h → with_entries (logs ++ rest) q es ≡ slice_set logs q (h ++ es) ++ rest
entries_at [] logs rest q h g = ap (λ ls. ls ++ rest) (sym (ap (slice_set logs q) (append-nil h) ∙ set_same logs q h g))
entries_at (e ∷ es) logs rest q h g =
    let one : List (List Entry) = slice_set logs q (h ++ e ∷ []) in
    ap (λ ls. with_entries ls q es) (entry_at logs rest q h e g)
    ∙ entries_at es one rest q (h ++ e ∷ []) (set_here logs q (h ++ e ∷ []) (slice_get_within logs q h g))
    ∙ ap (λ (x : List Entry). slice_set one q x ++ rest) (append_assoc h (e ∷ []) es)
    ∙ ap (λ ls. ls ++ rest) (set-set logs q (h ++ e ∷ []) (h ++ e ∷ es))

-- ---- one page goes on

module _ (game : Game) (streams : List Stream) (a b : AuditState) (g h : AgreedState) (pages : List Page) (q : ℕ) (s t : Stream) (p : Page) where
  audit_on : StandFor game streams a g pages → slice_get streams q ≡ Some s → GoesOn game a b q s t p → IsAuditOf game (padded (lists_of game (slice_set streams q t)) (MOST_LOGS - length (lists_of game (slice_set streams q t)))) b
  audit_on w there k =
      let lists : List (List Entry) = lists_of game streams in
      let own : List Entry = entries_of game s in
      let rest : List (List Entry) = replicate (MOST_LOGS - length lists) [] in
      let there_is : slice_get lists q ≡ Some own = slice_get_map (entries_of game) streams q s there in
      let now : lists_of game (slice_set streams q t) ≡ slice_set lists q (own ++ k.more) = map-set (entries_of game) streams q t ∙ ap (slice_set lists q) k.entries in
      let long : length (lists_of game (slice_set streams q t)) ≡ length lists = ap (λ (x : List (List Entry)). length x) now ∙ length-set lists q (own ++ k.more) in
      subst (λ (ls : List (List Entry)). IsAuditOf game ls b)
      (entries_at k.more lists rest q own there_is ∙ ap (λ (ls : List (List Entry)). ls ++ rest) (sym now) ∙ ap (λ (n : ℕ). padded (lists_of game (slice_set streams q t)) (MOST_LOGS - n)) (sym long))
      (k.taken game (padded lists (MOST_LOGS - length lists)) w.audit.audit)

  owners_on : StandFor game streams a g pages → slice_get streams q ≡ Some s → GoesOn game a b q s t p → (i : ℕ) → owner_in b i ≡ item_or (owners_of game (slice_set streams q t)) i None
  owners_on w there k i = go (i == q) refl
    where
      owners : List (Option ℕ)
      owners = owners_of game streams

      now : owners_of game (slice_set streams q t) ≡ slice_set owners q (owner_of game t)
      now = map-set (owner_of game) streams q t

      old : owner_in a q ≡ owner_of game s
      old = w.audit.owners_are q ∙ item_there owners q (owner_of game s) None (slice_get_map (owner_of game) streams q s there)

      here : owner_in b q ≡ item_or (slice_set owners q (owner_of game t)) q None
      here = k.owner old ∙ sym (item_there (slice_set owners q (owner_of game t)) q (owner_of game t) None (set_here owners q (owner_of game t) (let lt = slice_get_within streams q s there in let n = length-map streams (owner_of game) in omega (arith, lt, n))))

      go : (c : Bool) → (i == q) ≡ c → owner_in b i ≡ item_or (owners_of game (slice_set streams q t)) i None
      go true e =
          let same : i ≡ q = eqb-true i q e in
          ap (owner_in b) same ∙ here ∙ ap (λ n. item_or (slice_set owners q (owner_of game t)) n None) (sym same) ∙ ap (λ (os : List (Option ℕ)). item_or os i None) (sym now)
      go false e =
          let other : i ≡ q → ⊥ = λ x. false≢true (sym e ∙ eq-eqb i q x) in
          (k.others i other).1 ∙ w.audit.owners_are i ∙ sym (item_beside owners q i (owner_of game t) None other) ∙ ap (λ (os : List (Option ℕ)). item_or os i None) (sym now)

  pages_on : StandFor game streams a g pages → slice_get streams q ≡ Some s → GoesOn game a b q s t p → (i : ℕ) (u : Stream) (r : Page) → slice_get (slice_set streams q t) i ≡ Some u → slice_get (slice_set pages q p) i ≡ Some r → IsPageOf game b i u r
  pages_on w there k i u r x y = go (i == q) refl
    where
      lt : q < length pages
      lt = (let l = slice_get_within streams q s there in let m = w.many in let n = w.each in omega (arith, l, m, n))

      keeps : (j : ℕ) (v : Stream) (z : Page) → count_in b j ≡ count_in a j → IsPageOf game a j v z → IsPageOf game b j v z
      keeps j v z c o = record { closed = o.closed; count = o.count; most = o.most; feed = o.feed; used = o.used; counted = (let n = o.counted in omega (arith, n, c)) }

      go : (c : Bool) → (i == q) ≡ c → IsPageOf game b i u r
      go true e =
          let same : i ≡ q = eqb-true i q e in
          let is_t : u ≡ t = same_get (slice_get (slice_set streams q t) q) u t (ap (slice_get (slice_set streams q t)) (sym same) ∙ x) (set_here streams q t (slice_get_within streams q s there)) in
          let is_p : r ≡ p = same_get (slice_get (slice_set pages q p) q) r p (ap (slice_get (slice_set pages q p)) (sym same) ∙ y) (set_here pages q p lt) in
          subst (λ (n : ℕ). IsPageOf game b n u r) (sym same) (subst (λ (v : Stream). IsPageOf game b q v r) (sym is_t) (subst (λ (z : Page). IsPageOf game b q t z) (sym is_p) k.page))
      go false e =
          let other : i ≡ q → ⊥ = λ n. false≢true (sym e ∙ eq-eqb i q n) in
          keeps i u r ((k.others i other).0) (w.pages_are i u r (sym (set_beside streams q i t other) ∙ x) (sym (set_beside pages q i p other) ∙ y))

  own_on : StandFor game streams a g pages → slice_get streams q ≡ Some s → Heeds game a g h q s t → (i : ℕ) (u : Stream) → slice_get (slice_set streams q t) i ≡ Some u → IsOwn game i u
  own_on w there k i u x = go (i == q) refl
    where
      go : (c : Bool) → (i == q) ≡ c → IsOwn game i u
      go true e =
          let same : i ≡ q = eqb-true i q e in
          let is_t : u ≡ t = same_get (slice_get (slice_set streams q t) q) u t (ap (slice_get (slice_set streams q t)) (sym same) ∙ x) (set_here streams q t (slice_get_within streams q s there)) in
          subst (λ (n : ℕ). IsOwn game n u) (sym same) (subst (λ (v : Stream). IsOwn game q v) (sym is_t) k.own)
      go false e = w.own i u (sym (set_beside streams q i t (λ n. false≢true (sym e ∙ eq-eqb i q n))) ∙ x)

  agreed_on : StandFor game streams a g pages → slice_get streams q ≡ Some s → Heeds game a g h q s t → IsOf game (lists_of game (slice_set streams q t)) h
  agreed_on w there k =
      subst (λ (ls : List (List Entry)). IsOf game ls h) (sym (map-set (entries_of game) streams q t))
      (k.lists_are (lists_of game streams) w.audit.audit (slice_get_map (entries_of game) streams q s there) w.agreed)

  pub stand_on : StandFor game streams a g pages → slice_get streams q ≡ Some s → GoesOn game a b q s t p → Heeds game a g h q s t → StandFor game (slice_set streams q t) b h (slice_set pages q p)
  stand_on w there k heeds = record {
    session = k.session ∙ w.session;
    many = length-set streams q t ∙ w.many;
    each = length-set pages q p ∙ w.each;
    most = w.most;
    audit = record {
      audit = audit_on w there k;
      owners_are = owners_on w there k;
      each = length-map (slice_set streams q t) (owner_of game) ∙ sym (length-map (slice_set streams q t) (entries_of game));
    };
    pages_are = pages_on w there k;
    own = own_on w there heeds;
    agreed = agreed_on w there heeds;
  }

-- ---- nothing came

pub stand_new : (game : Game) (a : AuditState) (g : AgreedState) (pages : List Page) → AreNew game pages → IsAuditOf game (replicate MOST_LOGS []) a → IsOf game (replicate (players_of game) []) g → ((i : ℕ) → count_in a i ≡ 0) → ((i : ℕ) → owner_in a i ≡ None) → StandFor game (no_streams game) a g pages
stand_new game a g pages new audit turns counts owners =
    let few = new.few in
    let n : ℕ = players_of game in
    let lists : lists_of game (no_streams game) ≡ replicate n [] = repeated_map (entries_of game) n no_stream ∙ ap (replicate n) (nothing_read game) in
    let long : length (lists_of game (no_streams game)) ≡ n = ap (λ (x : List (List Entry)). length x) lists ∙ length-replicate n (let nil : List Entry = [] in nil) in
    let all : n + (MOST_LOGS - n) ≡ MOST_LOGS = omega (arith, few) in
    record {
      session = audit.session;
      many = length-replicate n no_stream;
      each = new.many;
      most = few;
      audit = record {
        audit = subst (λ (ls : List (List Entry)). IsAuditOf game ls a)
            (ap (λ (k : ℕ). replicate k []) (sym all) ∙ sym (replicate-append-replicate n (MOST_LOGS - n) (let nil : List Entry = [] in nil)) ∙ ap (λ (ls : List (List Entry)). padded ls (MOST_LOGS - n)) (sym lists) ∙ ap (λ (k : ℕ). padded (lists_of game (no_streams game)) (MOST_LOGS - k)) (sym long)) audit;
        owners_are = λ i. owners i ∙ sym (ap (λ (os : List (Option ℕ)). item_or os i None) (repeated_map (owner_of game) n no_stream) ∙ repeated_item n i None);
        each = length-map (no_streams game) (owner_of game) ∙ sym (length-map (no_streams game) (entries_of game));
      };
      pages_are = λ q s p g h.
          subst (λ (u : Stream). IsPageOf game a q u p) (sym (repeated_is n q no_stream s g)) (subst (IsNewPage game) (get_or_from_slice_get pages q p p h) (each_get (IsNewPage game) pages q p new.each (slice_get_within pages q p h)) a q (counts q));
      own = λ q s there lt. absurd (let none : count_of s ≡ 0 = ap count_of (repeated_is n q no_stream s there) in omega (arith, lt, none));
      agreed = subst (λ (ls : List (List Entry)). IsOf game ls g) (sym lists) turns;
    }
