-- Unread: what is read of a log from a place on, whoever reads it.
use Rattle.std.proofs.Common.{◌≡◌, ◌≤◌, ◌⊎◌, inl, inr, ℕ, zero, suc, ◌+◌, ◌<◌, Bool, true, false, List, [], ◌∷◌, length, drop, refl, sym, ◌∙◌, ap, arith, subst}
use Rattle.std.specs.Prelude.{Option, Some, None, Ok, Err, nat_lt, if◌then◌else◌}
use Rattle.std.proofs.lemmas.Bool.{cases_lt, lt-ltb, ne_eqb}
use Rattle.std.proofs.lemmas.List.{length-drop, drop-drop, drop_all}
use Rattle.definitions.specs.declared.logs.Entry.{Entry}
use Rattle.definitions.specs.declared.logs.LogWhy.TheVariants.{Torn, BadEntry}
use Rattle.definitions.specs.World.{Game, players_of}
use Rattle.session_log.specs.declared.finding.Found.{Found}
use Rattle.session_log.specs.declared.finding.Found.TheVariants as found
use Rattle.session_log.specs.Spelling.{first_chain}
use Rattle.session_log.specs.Entries.{told_len}
use Rattle.session_log.specs.Finding.{entry_at}
use Rattle.session_log.specs.Feeding.{end_at, torn_at}
use Rattle.session_log.specs.Reading.{Ending, fault_at, LogReading, log_at_start, Step, owned, ended, step_on, step_behind, next_step, ReadLog, read_on, read_by, read_log}
use Rattle.session_log.proofs.Found.{found_count, found_torn}
use Rattle.session_log.proofs.Logs.{reading, further_is, end_is}

-- entries, how the log ends behind them, and whose it is
pub record Unread : Type 0 where
  pub entries : List Entry
  pub last : Ending
  pub owner : Option ℕ

-- an entry in front
abbrev pub with_entry : Entry → Unread → Unread
with_entry e u = record { entries = e ∷ u.entries; last = u.last; owner = u.owner }

-- no entry, and this end
abbrev pub none_but : Ending → Option ℕ → Unread
none_but last owner = record { entries = []; last = last; owner = owner }

-- how many bytes the entry has that stands there, and its digest
abbrev pub whole_count : Found → ℕ
whole_count found.Torn = 0
whole_count (found.Bad why) = 0
whole_count (found.Whole e n digest) = n

abbrev pub whole_digest : Found → List ℕ
whole_digest found.Torn = []
whole_digest (found.Bad why) = []
whole_digest (found.Whole e n digest) = digest

-- what is read where this stands there, and behind it that
abbrev pub unread_by : ℕ → Found → ℕ → List ℕ → Unread → Unread
unread_by me found.Torn at bytes behind = none_but (torn_at at bytes) (Some me)
unread_by me (found.Bad why) at bytes behind = none_but (Err (fault_at at why)) (Some me)
unread_by me (found.Whole e n digest) at bytes behind = with_entry e behind

-- what is read of the owner's entries from a place on, with so many of them at most
abbrev pub unread_most : ℕ → Game → (me at : ℕ) → (chain bytes : List ℕ) → Unread
unread_most zero game me at chain bytes = none_but (Ok tt) (Some me)
unread_most (suc most) game me at chain bytes =
    unread_by me (entry_at game me chain bytes) at bytes
    (unread_most most game me (at + whole_count (entry_at game me chain bytes)) (whole_digest (entry_at game me chain bytes)) (drop (whole_count (entry_at game me chain bytes)) bytes))

-- each entry has a byte at least
pub unread : Game → (me at : ℕ) → (chain bytes : List ℕ) → Unread
unread game me at chain bytes = unread_most (suc (length bytes)) game me at chain bytes

not_torn : (e : Entry) (n : ℕ) (digest : List ℕ) → found.Torn ≡ found.Whole e n digest → ⊥
not_torn e n digest h = cc

-- an entry that is found has bytes, and all of them are there
pub whole_within : (game : Game) (me : ℕ) (chain bytes : List ℕ) (e : Entry) (n : ℕ) (digest : List ℕ) → entry_at game me chain bytes ≡ found.Whole e n digest → (0 < n) × (n ≤ length bytes)
whole_within game me chain bytes e n digest h =
    let count = (found_count game me chain bytes e n digest h).0 in
    elim (cases_lt (length bytes) (told_len bytes + 35)) [
      | inl lt ↦ absurd (not_torn e n digest (sym (found_torn game me chain bytes (lt-ltb _ _ lt)) ∙ h))
      | inr ge ↦ (omega arith, omega arith)
    ]

-- with entries enough it doesn't matter how many there may be
same_by : (x : Found) (game : Game) (me at : ℕ) (chain bytes : List ℕ) (m n : ℕ) → entry_at game me chain bytes ≡ x → length bytes < suc m → length bytes < suc n →
    ((at : ℕ) (chain bytes : List ℕ) → length bytes < m → length bytes < n → unread_most m game me at chain bytes ≡ unread_most n game me at chain bytes) →
    unread_by me x at bytes (unread_most m game me (at + whole_count x) (whole_digest x) (drop (whole_count x) bytes)) ≡ unread_by me x at bytes (unread_most n game me (at + whole_count x) (whole_digest x) (drop (whole_count x) bytes))
same_by found.Torn game me at chain bytes m n h a b ih = refl
same_by (found.Bad why) game me at chain bytes m n h a b ih = refl
same_by (found.Whole e k digest) game me at chain bytes m n h a b ih =
    let within = whole_within game me chain bytes e k digest h in
    let some = within.0 in let all = within.1 in
    let left = length-drop k bytes in
    ap (with_entry e) (ih (at + k) digest (drop k bytes) (omega arith) (omega arith))

unread_same : (m n : ℕ) (game : Game) (me at : ℕ) (chain bytes : List ℕ) → length bytes < m → length bytes < n → unread_most m game me at chain bytes ≡ unread_most n game me at chain bytes
unread_same zero n game me at chain bytes a b = absurd (omega arith)
unread_same (suc m) zero game me at chain bytes a b = absurd (omega arith)
unread_same (suc m) (suc n) game me at chain bytes a b =
    same_by (entry_at game me chain bytes) game me at chain bytes m n refl a b (λ at chain bytes a b. unread_same m n game me at chain bytes a b)

-- what is read is what stands there, and then what is read behind it
unread_more : (x : Found) (game : Game) (me at : ℕ) (chain bytes : List ℕ) → entry_at game me chain bytes ≡ x →
    unread_by me x at bytes (unread_most (length bytes) game me (at + whole_count x) (whole_digest x) (drop (whole_count x) bytes)) ≡
    unread_by me x at bytes (unread game me (at + whole_count x) (whole_digest x) (drop (whole_count x) bytes))
unfolding unread
unread_more found.Torn game me at chain bytes h = refl
unread_more (found.Bad why) game me at chain bytes h = refl
unread_more (found.Whole e k digest) game me at chain bytes h =
    let within = whole_within game me chain bytes e k digest h in
    let some = within.0 in let all = within.1 in
    let left = length-drop k bytes in
    ap (with_entry e) (unread_same (length bytes) (suc (length (drop k bytes))) game me (at + k) digest (drop k bytes) (omega arith) (omega arith))

pub unread_is : (x : Found) (game : Game) (me at : ℕ) (chain bytes : List ℕ) → entry_at game me chain bytes ≡ x →
    unread game me at chain bytes ≡ unread_by me x at bytes (unread game me (at + whole_count x) (whole_digest x) (drop (whole_count x) bytes))
unfolding unread
unread_is x game me at chain bytes h =
    ap (λ y. unread_by me y at bytes (unread_most (length bytes) game me (at + whole_count y) (whole_digest y) (drop (whole_count y) bytes))) h ∙ unread_more x game me at chain bytes h

owner_by : (x : Found) (me at : ℕ) (bytes : List ℕ) (behind : Unread) → behind.owner ≡ Some me → (unread_by me x at bytes behind).owner ≡ Some me
owner_by found.Torn me at bytes behind h = refl
owner_by (found.Bad why) me at bytes behind h = refl
owner_by (found.Whole e k digest) me at bytes behind h = h

owner_most : (most : ℕ) (game : Game) (me at : ℕ) (chain bytes : List ℕ) → (unread_most most game me at chain bytes).owner ≡ Some me
owner_most zero game me at chain bytes = refl
owner_most (suc most) game me at chain bytes = owner_by (entry_at game me chain bytes) me at bytes _ (owner_most most game me _ _ _)

pub unread_owner : (game : Game) (me at : ℕ) (chain bytes : List ℕ) → (unread game me at chain bytes).owner ≡ Some me
unfolding unread
unread_owner game me at chain bytes = owner_most (suc (length bytes)) game me at chain bytes

-- ---- a reader reads that

pub record ReadsAs (l : ReadLog) (u : Unread) : Type 0 where
  pub entries : l.entries ≡ u.entries
  pub said : l.reader.said ≡ Some u.last

reads_found : (x : Found) (game : Game) (log : List ℕ) (me at most : ℕ) (chain bytes : List ℕ) (r : LogReading) → r.said ≡ None → 0 < length bytes → entry_at game me chain bytes ≡ x →
    ((n : ℕ) (digest : List ℕ) → 0 < n → n ≤ length bytes → ReadsAs (read_by game log most (reading me (at + n) digest)) (unread game me (at + n) digest (drop n bytes))) →
    let s : Step = step_on r me at x in
    ReadsAs (read_on s.answer s.reader (read_by game log most s.reader)) (unread_by me x at bytes (unread game me (at + whole_count x) (whole_digest x) (drop (whole_count x) bytes)))
reads_found found.Torn game log me at most chain [] r none some h ih = absurd (omega arith)
reads_found found.Torn game log me at most chain (b ∷ bytes) r none some h ih = record { entries = refl; said = refl }
reads_found (found.Bad why) game log me at most chain bytes r none some h ih = record { entries = refl; said = refl }
reads_found (found.Whole e n digest) game log me at most chain bytes r none some h ih =
    let within = whole_within game me chain bytes e n digest h in
    let s : LogReading = record { owner = Some me; at = at + n; chain = digest; said = r.said } in
    let same : s ≡ reading me (at + n) digest = ap (λ (o : Option Ending). record { owner = Some me; at = at + n; chain = digest; said = o }) none in
    let more = ih n digest within.0 within.1 in
    let u : Unread = with_entry e (unread game me (at + n) digest (drop n bytes)) in
    subst (λ (q : LogReading). ReadsAs (read_on (Ok (Some e)) q (read_by game log most q)) u) (sym same) (record { entries = ap (λ es. e ∷ es) more.entries; said = more.said })

reads_by : (most : ℕ) (game : Game) (log : List ℕ) (me at : ℕ) (chain : List ℕ) → (at < length log) ⊎ (length log ≤ at) → 1 < at → at ≤ length log → length log < at + suc most →
    ((at : ℕ) (chain : List ℕ) → 1 < at → at ≤ length log → length log < at + most → ReadsAs (read_by game log most (reading me at chain)) (unread game me at chain (drop at log))) →
    ReadsAs (read_by game log (suc most) (reading me at chain)) (unread game me at chain (drop at log))
reads_by most game log me at chain (inl lt) behind within few ih =
    let on : Step → ReadLog = λ t. read_on t.answer t.reader (read_by game log most t.reader) in
    let x : Found = entry_at game me chain (drop at log) in
    let step = further_is game log me at chain x lt refl in
    let l = length-drop at log in
    subst (λ (t : Step). ReadsAs (on t) (unread game me at chain (drop at log))) (sym step)
    (subst (λ (u : Unread). ReadsAs (on (step_on (reading me at chain) me at x)) u) (sym (unread_is x game me at chain (drop at log) refl))
    (reads_found x game log me at most chain (drop at log) (reading me at chain) refl (omega arith) refl
    (λ n digest some fits.
    let m = length-drop at log in
    let r = ih (at + n) digest (omega arith) (omega arith) (omega arith) in
    subst (λ (xs : List ℕ). ReadsAs (read_by game log most (reading me (at + n) digest)) (unread game me (at + n) digest xs)) (sym (drop-drop n at log)) r)))
reads_by most game log me at chain (inr le) behind within few ih =
    let on : Step → ReadLog = λ t. read_on t.answer t.reader (read_by game log most t.reader) in
    let step = end_is game log me at chain le in
    let none : drop at log ≡ [] = drop_all at log le in
    let last : end_at at ≡ Ok tt = ap (λ (b : Bool). if b then Err (fault_at 0 Torn) else Ok tt) (ne_eqb at 1 (omega arith)) in
    let torn : unread game me at chain [] ≡ none_but (end_at at) (Some me) = unread_is found.Torn game me at chain [] (found_torn game me chain [] refl) in
    subst (λ (t : Step). ReadsAs (on t) (unread game me at chain (drop at log))) (sym step)
    (subst (λ (xs : List ℕ). ReadsAs (on (ended (reading me at chain) (Ok tt))) (unread game me at chain xs)) (sym none)
    (subst (λ (u : Unread). ReadsAs (on (ended (reading me at chain) (Ok tt))) u) (sym torn) (record { entries = refl; said = ap (λ (n : Ending). Some n) (sym last) })))

reads_rest : (most : ℕ) (game : Game) (log : List ℕ) (me at : ℕ) (chain : List ℕ) → 1 < at → at ≤ length log → length log < at + most →
    ReadsAs (read_by game log most (reading me at chain)) (unread game me at chain (drop at log))
reads_rest zero game log me at chain behind within few = absurd (omega arith)
reads_rest (suc most) game log me at chain behind within few =
    reads_by most game log me at chain (cases_lt at (length log)) behind within few (λ at chain b h q. reads_rest most game log me at chain b h q)

-- what is read of a whole log of the session with this id
abbrev pub unread_log : Game → (at : ℕ) → (id bytes : List ℕ) → Unread
unread_log game at id [] = none_but (Ok tt) None
unread_log game at id (me ∷ bytes) = if nat_lt me (players_of game) then unread game me (at + 1) (first_chain id me) bytes else none_but (Err (fault_at 0 BadEntry)) None

reads_first : (game : Game) (me : ℕ) (rest : List ℕ) (most : ℕ) → length (me ∷ rest) < 1 + suc most → (b : Bool) → nat_lt me (players_of game) ≡ b →
    let s : Step = if b then step_behind game (log_at_start game.id) me rest else ended (owned (log_at_start game.id) me) (Err (fault_at 0 BadEntry)) in
    ReadsAs (read_on s.answer s.reader (read_by game (me ∷ rest) most s.reader)) (if b then unread game me 1 (first_chain game.id me) rest else none_but (Err (fault_at 0 BadEntry)) None)
reads_first game me rest most few false t = record { entries = refl; said = refl }
reads_first game me [] most few true t =
    let torn : unread game me 1 (first_chain game.id me) [] ≡ none_but (Err (fault_at 0 Torn)) (Some me) = unread_is found.Torn game me 1 (first_chain game.id me) [] (found_torn game me (first_chain game.id me) [] refl) in
    let s : Step = ended (owned (log_at_start game.id) me) (Err (fault_at 0 Torn)) in
    subst (λ (u : Unread). ReadsAs (read_on s.answer s.reader (read_by game (me ∷ []) most s.reader)) u) (sym torn) (record { entries = refl; said = refl })
reads_first game me (x ∷ rest) most few true t =
    let log : List ℕ = me ∷ x ∷ rest in
    let chain : List ℕ = first_chain game.id me in
    let f : Found = entry_at game me chain (x ∷ rest) in
    let s : Step = step_on (log_at_start game.id) me 1 f in
    subst (λ (u : Unread). ReadsAs (read_on s.answer s.reader (read_by game log most s.reader)) u) (sym (unread_is f game me 1 chain (x ∷ rest) refl))
    (reads_found f game log me 1 most chain (x ∷ rest) (log_at_start game.id) refl (omega arith) refl
    (λ n digest some fits.
    let q = reads_rest most game log me (1 + n) digest (omega arith) (omega arith) (omega arith) in
    subst (λ (xs : List ℕ). ReadsAs (read_by game log most (reading me (1 + n) digest)) (unread game me (1 + n) digest xs)) (sym (drop-drop n 1 log)) q))

-- a reader reads of a log what there is
pub log_reads : (game : Game) (bytes : List ℕ) → ReadsAs (read_log game bytes) (unread_log game 0 game.id bytes)
unfolding read_log next_step
log_reads game [] = record { entries = refl; said = refl }
log_reads game (me ∷ rest) = reads_first game me rest (length (me ∷ rest)) (omega arith) (nat_lt me (players_of game)) refl
