-- Owners: a log's first byte says whose it is, and a log that isn't refused is the player's own.
use Rattle.std.proofs.Common.{◌≡◌, inl, inr, ℕ, zero, suc, Bool, true, false, ◌+◌, List, [], ◌∷◌, drop, length, refl, sym, ap, ◌∙◌, subst}
use Rattle.std.specs.Prelude.{Option, Some, None, Ok, Err, nat_lt, nat_le, not, ◌&&◌, ◌==◌, if◌then◌else◌}
use Rattle.std.proofs.lemmas.Bool.{eqb-true}
use Rattle.definitions.specs.declared.logs.Entry.{Entry}
use Rattle.session_log.specs.declared.faults.LogFault.{LogFault}
use Rattle.definitions.specs.declared.logs.LogWhy.TheVariants.{BadEntry}
use Rattle.definitions.specs.declared.limits.TheConstants.{LONGEST_LOG}
use Rattle.definitions.specs.World.{Game, players_of}
use Rattle.session_log.specs.Entries.{entry_of, told_len}
use Rattle.session_log.specs.Finding.{digest_at, entry_at, is_torn, is_unchained, owned_by, text_at}
use Rattle.definitions.specs.Entries.{is_well_formed}
use Rattle.session_log.specs.Spelling.{first_chain}
use Rattle.session_log.specs.Reading.{Ending, Answer, fault_at, LogReading, log_at_start, Step, owned, ended, step_on, step_behind, first_step, further_step, step_by, step_unless, next_step, ReadLog, read_on, read_by, read_log}
use Rattle.session_log.specs.Laws.{AreEntriesOf}
use Rattle.old_log.specs.Old.{is_anothers, old_entries, old_fault, old_owner}

-- ---- a reader that has an owner keeps it

abbrev IsOwned : ℕ → LogReading → Type 0
IsOwned me r = r.owner ≡ Some me

-- what holds of both holds of the one that a test takes
either : {X : Type 0} (P : X → Type 0) (b : Bool) {x y : X} → P x → P y → P (if b then x else y)
either P true h k = h
either P false h k = k

-- whatever stands where an entry of the owner begins
owned_keeps : (game : Game) (r : LogReading) (me at count : ℕ) (digest : List ℕ) (o : Option Entry) → IsOwned me (step_on r me at (owned_by game me o count digest)).reader
owned_keeps game r me at count digest None = refl
owned_keeps game r me at count digest (Some e) = either (λ f. IsOwned me (step_on r me at f).reader) (is_well_formed game me e) refl refl

on_keeps : (game : Game) (r : LogReading) (me at : ℕ) (chain bytes : List ℕ) → IsOwned me (step_on r me at (entry_at game me chain bytes)).reader
unfolding entry_at
on_keeps game r me at chain bytes =
    either (λ f. IsOwned me (step_on r me at f).reader) (is_torn bytes) refl
    (either (λ f. IsOwned me (step_on r me at f).reader) (is_unchained chain bytes) refl (owned_keeps game r me at (told_len bytes + 35) (digest_at bytes) (entry_of (text_at bytes))))

either_keeps : (b : Bool) (s t : Step) (me : ℕ) → IsOwned me s.reader → IsOwned me t.reader → IsOwned me (if b then s else t).reader
either_keeps true s t me h k = h
either_keeps false s t me h k = k

unless_keeps : (x : Option Ending) (r : LogReading) (s : Step) (me : ℕ) → IsOwned me r → IsOwned me s.reader → IsOwned me (step_unless x r s).reader
unless_keeps None r s me h k = k
unless_keeps (Some end) r s me h k = h

next_keeps : (game : Game) (log : List ℕ) (r : LogReading) (me : ℕ) → IsOwned me r → IsOwned me (next_step game log r).reader
unfolding next_step
next_keeps game log r me h =
    let further : IsOwned me (further_step game r me log).reader = either_keeps (nat_le (length log) r.at) (ended r (Ok tt)) (step_on r me r.at (entry_at game me r.chain (drop r.at log))) me h (on_keeps game r me r.at r.chain (drop r.at log)) in
    unless_keeps r.said r (step_by game r r.owner log) me h (subst (λ (o : Option ℕ). IsOwned me (step_by game r o log).reader) (sym h) further)

read_on_keeps : (n : Answer) (r : LogReading) (behind : ReadLog) (me : ℕ) → IsOwned me r → IsOwned me behind.reader → IsOwned me (read_on n r behind).reader
read_on_keeps (Ok (Some e)) r behind me h k = k
read_on_keeps (Ok None) r behind me h k = h
read_on_keeps (Err fault) r behind me h k = h

read_keeps : (game : Game) (log : List ℕ) (most : ℕ) (r : LogReading) (me : ℕ) → IsOwned me r → IsOwned me (read_by game log most r).reader
read_keeps game log zero r me h = h
read_keeps game log (suc most) r me h =
    let s : Step = next_step game log r in
    let k : IsOwned me s.reader = next_keeps game log r me h in
    read_on_keeps s.answer s.reader (read_by game log most s.reader) me k (read_keeps game log most s.reader me k)

behind_keeps : (game : Game) (r : LogReading) (me : ℕ) (bytes : List ℕ) → IsOwned me (step_behind game r me bytes).reader
behind_keeps game r me [] = refl
behind_keeps game r me (b ∷ bytes) = on_keeps game r me 1 (first_chain r.chain me) (b ∷ bytes)

-- the first byte is the owner
pub owner_first : (game : Game) (me : ℕ) (rest : List ℕ) → old_owner game (me ∷ rest) ≡ Some me
unfolding read_log next_step
owner_first game me rest =
    let r : LogReading = log_at_start game.id in
    let s : Step = first_step game r (me ∷ rest) in
    let k : IsOwned me s.reader = either_keeps (nat_lt me (players_of game)) (step_behind game r me rest) (ended (owned r me) (Err (fault_at 0 BadEntry))) me (behind_keeps game r me rest) refl in
    read_on_keeps s.answer s.reader (read_by game (me ∷ rest) (length (me ∷ rest)) s.reader) me k (read_keeps game (me ∷ rest) (length (me ∷ rest)) s.reader me k)

no_entries : (game : Game) → old_entries game [] ≡ []
unfolding read_log next_step
no_entries game = refl

-- ---- a log that isn't refused

-- no test before the last one refused it
not_refused : (b : Bool) (f : LogFault) (h : Option LogFault) → (if b then Some f else h) ≡ None → (b ≡ false) × (h ≡ None)
not_refused true f h e = absurd (let k : Some f ≡ None = e in cc)
not_refused false f h e = (refl, e)

-- whose it is, where it has entries
same_by : (b : Bool) (me m : ℕ) → (m == me) ≡ b → (not b && true) ≡ false → m ≡ me
same_by true me m e h = eqb-true m me e
same_by false me m e h = absurd (let k : true ≡ false = h in cc)

not_both : (e : Entry) (es : List Entry) → [] ≡ e ∷ es → ⊥
not_both e es h = cc

-- a log with entries that isn't refused begins with the player's byte
pub own_first : (game : Game) (me : ℕ) (log : List ℕ) → old_fault game me log ≡ None → (e : Entry) (more : List Entry) → old_entries game log ≡ e ∷ more → (rest : List ℕ) × (log ≡ me ∷ rest)
own_first game me [] fit e more is = absurd (not_both e more (sym (no_entries game) ∙ is))
own_first game me (m ∷ rest) fit e more is =
    let log : List ℕ = m ∷ rest in
    let es : List Entry = old_entries game log in
    let short = not_refused (nat_lt LONGEST_LOG (length log)) _ _ fit in
    let own : is_anothers me (old_owner game log) es ≡ false = (not_refused (is_anothers me (old_owner game log) es) _ _ short.1).0 in
    let there : is_anothers me (Some m) (e ∷ more) ≡ false = ap (λ (xs : List Entry). is_anothers me (Some m) xs) (sym is) ∙ (ap (λ (o : Option ℕ). is_anothers me o es) (sym (owner_first game m rest)) ∙ own) in
    let same : m ≡ me = same_by (m == me) me m refl there in
    (rest, ap (λ (k : ℕ). k ∷ rest) same)

-- a log that isn't another player's has this player's entries, or none
own_by : (game : Game) (me : ℕ) (log : List ℕ) (m : ℕ) (es : List Entry) → old_owner game log ≡ Some m → old_entries game log ≡ es → is_anothers me (Some m) es ≡ false → AreEntriesOf me (read_log game log)
own_by game me log m [] owner is own = inr is
own_by game me log m (e ∷ more) owner is own = inl (owner ∙ ap (λ (k : ℕ). Some k) (same_by (m == me) me m refl own))

pub own_entries : (game : Game) (me : ℕ) (log : List ℕ) → is_anothers me (old_owner game log) (old_entries game log) ≡ false → AreEntriesOf me (read_log game log)
own_entries game me [] own = inr (no_entries game)
own_entries game me (m ∷ rest) own =
    own_by game me (m ∷ rest) m (old_entries game (m ∷ rest)) (owner_first game m rest) refl
    (ap (λ (o : Option ℕ). is_anothers me o (old_entries game (m ∷ rest))) (sym (owner_first game m rest)) ∙ own)
