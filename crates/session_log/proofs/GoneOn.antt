-- GoneOn: a writer of a reader goes on behind the entries that were read.
use Rattle.std.proofs.Common.{◌≡◌, ◌≤◌, ◌⊎◌, inl, inr, ℕ, zero, suc, ◌+◌, ◌<◌, Bool, true, false, cond, List, [], ◌∷◌, length, drop, refl, sym, ◌∙◌, ap, arith, subst, length-append, add-zero}
use Rattle.std.specs.Prelude.{Some, Err, nat_lt}
use Rattle.std.proofs.lemmas.Bool.{lt-ltb, cases_lt}
use Rattle.std.proofs.lemmas.List.{length-drop, length-take-le}
use Rattle.definitions.specs.declared.logs.Entry.{Entry}
use Rattle.definitions.specs.declared.logs.LogWhy.TheVariants.{BadEntry}
use Rattle.definitions.specs.World.{Game, players_of}
use Rattle.session_log.specs.declared.finding.Found.{Found}
use Rattle.session_log.specs.declared.finding.Found.TheVariants as found
use Rattle.session_log.specs.Spelling.{entry_text, chained, entry_bytes, entries_bytes, first_chain, log_bytes}
use Rattle.session_log.specs.Finding.{entry_at}
use Rattle.session_log.specs.Reading.{fault_at, LogReading, log_at_start, Step, owned, ended, step_on, step_behind, next_step, ReadLog, read_on, read_by, read_log}
use Rattle.session_log.specs.Writing.{all_after, fresh}
use Rattle.session_log.specs.Laws.{AreBytes, AreEntriesOf, StandsAfter, chain_behind}
use Rattle.session_log.proofs.Found.{IsFound, found_stands}
use Rattle.session_log.proofs.Logs.{end_is, further_is, reading}
use Rattle.plain_lemmas.proofs.Lists.{drop_bytes}

-- a writer that has begun, behind these entries
begun_after : (me : ℕ) (chain : List ℕ) (entries : List Entry) →
    all_after (record { owner = me; begun = true; chain = chain }) entries ≡ record { owner = me; begun = true; chain = chain_behind chain entries }
begun_after me chain [] = refl
begun_after me chain (e ∷ entries) = begun_after me (chained chain (entry_text e)) entries

-- how far a reader of the owner's entries from a place on has come
record HasCome (me at : ℕ) (chain : List ℕ) (l : ReadLog) : Type 0 where
  owner : l.reader.owner ≡ Some me
  at_is : l.reader.at ≡ at + length (entries_bytes chain l.entries)
  chain_is : l.reader.chain ≡ chain_behind chain l.entries

-- nothing was read from the place on
none_come : (me at : ℕ) (chain : List ℕ) (l : ReadLog) → l.entries ≡ [] → l.reader.owner ≡ Some me → l.reader.at ≡ at → l.reader.chain ≡ chain → HasCome me at chain l
none_come me at chain l none owner here same = record {
  owner = owner;
  at_is = here ∙ sym (add-zero at) ∙ ap (λ (es : List Entry). at + length (entries_bytes chain es)) (sym none);
  chain_is = same ∙ ap (λ (es : List Entry). chain_behind chain es) (sym none);
}

-- an entry in front
come_more : (game : Game) (me at : ℕ) (chain bytes : List ℕ) (e : Entry) (count : ℕ) (digest : List ℕ) (l : ReadLog) → IsFound game me chain bytes e count digest → HasCome me (at + count) digest l →
    HasCome me at chain (record { entries = e ∷ l.entries; reader = l.reader })
come_more game me at chain bytes e count digest l is come =
    let front : List ℕ = entry_bytes chain e in
    let text : List ℕ = entries_bytes (chained chain (entry_text e)) l.entries in
    let same : text ≡ entries_bytes digest l.entries = ap (λ d. entries_bytes d l.entries) (sym is.is_digest) in
    let long : length front ≡ count = ap length is.is_text ∙ length-take-le count bytes is.fits in
    let n = ap length same in
    let m = length-append front text in
    let here = come.at_is in
    record {
      owner = come.owner;
      at_is = omega arith;
      chain_is = come.chain_is ∙ ap (λ d. chain_behind d l.entries) is.is_digest;
    }

found_come : (game : Game) (log : List ℕ) (me at most : ℕ) (chain bytes : List ℕ) (f : Found) → entry_at game me chain bytes ≡ f → AreBytes bytes →
    ((count : ℕ) (digest : List ℕ) → 0 < count → count ≤ length bytes → HasCome me (at + count) digest (read_by game log most (reading me (at + count) digest))) →
    let s : Step = step_on (reading me at chain) me at f in
    HasCome me at chain (read_on s.answer s.reader (read_by game log most s.reader))
found_come game log me at most chain bytes found.Torn e b ih = none_come me at chain _ refl refl refl refl
found_come game log me at most chain bytes (found.Bad why) e b ih = none_come me at chain _ refl refl refl refl
found_come game log me at most chain bytes (found.Whole x count digest) e b ih =
    let is = found_stands game me chain bytes x count digest b e in
    come_more game me at chain bytes x count digest (read_by game log most (reading me (at + count) digest)) is (ih count digest is.some is.fits)

come_by : (most : ℕ) (game : Game) (log : List ℕ) (me at : ℕ) (chain : List ℕ) → (at < length log) ⊎ (length log ≤ at) → AreBytes log → at ≤ length log → length log < at + suc most →
    ((at : ℕ) (chain : List ℕ) → at ≤ length log → length log < at + most → HasCome me at chain (read_by game log most (reading me at chain))) →
    HasCome me at chain (read_by game log (suc most) (reading me at chain))
come_by most game log me at chain (inl lt) b within few ih =
    let on : Step → ReadLog = λ t. read_on t.answer t.reader (read_by game log most t.reader) in
    let f : Found = entry_at game me chain (drop at log) in
    let step = further_is game log me at chain f lt refl in
    subst (λ (t : Step). HasCome me at chain (on t)) (sym step)
    (found_come game log me at most chain (drop at log) f refl (drop_bytes at log b)
    (λ count digest some fits. let l = length-drop at log in ih (at + count) digest (omega arith) (omega arith)))
come_by most game log me at chain (inr le) b within few ih =
    let on : Step → ReadLog = λ t. read_on t.answer t.reader (read_by game log most t.reader) in
    let step = end_is game log me at chain le in
    subst (λ (t : Step). HasCome me at chain (on t)) (sym step) (none_come me at chain _ refl refl refl refl)

rest_come : (most : ℕ) (game : Game) (log : List ℕ) (me at : ℕ) (chain : List ℕ) → AreBytes log → at ≤ length log → length log < at + most → HasCome me at chain (read_by game log most (reading me at chain))
rest_come zero game log me at chain b within few = absurd (omega arith)
rest_come (suc most) game log me at chain b within few = come_by most game log me at chain (cases_lt at (length log)) b within few (λ at chain h q. rest_come most game log me at chain b h q)

-- ---- the whole log

-- for whomever these are the entries, or if there are none
abbrev GoesOn : Game → ReadLog → Type 0
GoesOn game l = (me : ℕ) → AreEntriesOf me l → StandsAfter game me l

-- no entry was read
none_stands : (game : Game) (l : ReadLog) → l.entries ≡ [] → l.reader.at ≡ 0 → l.reader.chain ≡ game.id → GoesOn game l
none_stands game l none here same me is = record {
  writer_is = ap (λ (n : ℕ). record { owner = me; begun = nat_lt 0 n; chain = l.reader.chain }) here ∙ ap (λ (c : List ℕ). fresh c me) same ∙ ap (λ (es : List Entry). all_after (fresh game.id me) es) (sym none);
  used_is = here ∙ ap (λ (es : List Entry). length (log_bytes game.id me es)) (sym none);
}

some_same : (me other : ℕ) → Some me ≡ Some other → me ≡ other
some_same me other e = cc

no_entry : (e : Entry) (es : List Entry) → (let all : List Entry = e ∷ es in all ≡ []) → ⊥
no_entry e es h = cc

-- an entry was read first
some_stand : (game : Game) (me : ℕ) (e : Entry) (es : List Entry) (r : LogReading) → HasCome me 1 (first_chain game.id me) (record { entries = e ∷ es; reader = r }) → StandsAfter game me (record { entries = e ∷ es; reader = r })
some_stand game me e es r come =
    let chain : List ℕ = first_chain game.id me in
    let here = come.at_is in
    let some : nat_lt 0 r.at ≡ true = lt-ltb 0 r.at (omega arith) in
    record {
      writer_is = ap (λ (b : Bool). record { owner = me; begun = b; chain = r.chain }) some ∙ ap (λ (c : List ℕ). record { owner = me; begun = true; chain = c }) come.chain_is ∙
          sym (begun_after me (chained chain (entry_text e)) es);
      used_is = omega arith;
    }

some_go : (game : Game) (me : ℕ) (e : Entry) (es : List Entry) (r : LogReading) → HasCome me 1 (first_chain game.id me) (record { entries = e ∷ es; reader = r }) → GoesOn game (record { entries = e ∷ es; reader = r })
some_go game me e es r come other (inl own) =
    subst (λ (m : ℕ). StandsAfter game m (record { entries = e ∷ es; reader = r })) (some_same me other (sym come.owner ∙ own)) (some_stand game me e es r come)
some_go game me e es r come other (inr none) = absurd (no_entry e es none)

found_goes : (game : Game) (log : List ℕ) (me most : ℕ) (bytes : List ℕ) (f : Found) → entry_at game me (first_chain game.id me) bytes ≡ f → AreBytes bytes →
    ((count : ℕ) (digest : List ℕ) → 0 < count → count ≤ length bytes → HasCome me (1 + count) digest (read_by game log most (reading me (1 + count) digest))) →
    let s : Step = step_on (log_at_start game.id) me 1 f in
    GoesOn game (read_on s.answer s.reader (read_by game log most s.reader))
found_goes game log me most bytes found.Torn e b ih = none_stands game _ refl refl refl
found_goes game log me most bytes (found.Bad why) e b ih = none_stands game _ refl refl refl
found_goes game log me most bytes (found.Whole x count digest) e b ih =
    let chain : List ℕ = first_chain game.id me in
    let is = found_stands game me chain bytes x count digest b e in
    let l : ReadLog = read_by game log most (reading me (1 + count) digest) in
    some_go game me x l.entries l.reader (come_more game me 1 chain bytes x count digest l is (ih count digest is.some is.fits))

first_goes : (game : Game) (me : ℕ) (rest : List ℕ) (most : ℕ) → AreBytes (me ∷ rest) → length (me ∷ rest) < 1 + suc most → (b : Bool) → nat_lt me (players_of game) ≡ b →
    let s : Step = cond b (step_behind game (log_at_start game.id) me rest) (ended (owned (log_at_start game.id) me) (Err (fault_at 0 BadEntry))) in
    GoesOn game (read_on s.answer s.reader (read_by game (me ∷ rest) most s.reader))
first_goes game me rest most bytes few false t = none_stands game _ refl refl refl
first_goes game me [] most bytes few true t = none_stands game _ refl refl refl
first_goes game me (x ∷ rest) most bytes few true t =
    let log : List ℕ = me ∷ x ∷ rest in
    let chain : List ℕ = first_chain game.id me in
    found_goes game log me most (x ∷ rest) (entry_at game me chain (x ∷ rest)) refl (λ i. bytes (suc i))
    (λ count digest some fits. rest_come most game log me (1 + count) digest bytes (omega arith) (omega arith))

pub log_goes_on : (game : Game) (bytes : List ℕ) (me : ℕ) → AreBytes bytes → AreEntriesOf me (read_log game bytes) → StandsAfter game me (read_log game bytes)
unfolding read_log next_step
log_goes_on game [] me b is = none_stands game _ refl refl refl me is
log_goes_on game (owner ∷ rest) me b is = first_goes game owner rest (length (owner ∷ rest)) b (omega arith) (nat_lt owner (players_of game)) refl me is
