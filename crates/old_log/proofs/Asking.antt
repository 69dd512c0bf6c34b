-- Asking: a reader that is asked again and again reads all of a log.
use Rattle.std.proofs.Math.Facts.{Fits-lt-pow}
use Rattle.std.proofs.Common.{◌≡◌, Fits, w8, get_or, ℕ, zero, suc, ◌+◌, ◌-◌, ◌<◌, List, [], ◌∷◌, ◌++◌, length, refl, sym, ◌∙◌, ap, subst, arith, append_assoc, append-nil, length-append}
use Rattle.std.specs.Prelude.{Bool, true, false, drop, Option, None, Some, Ok, Err, nat_le, nat_lt, if◌then◌else◌}
use Rattle.definitions.specs.declared.logs.Entry.{Entry}
use Rattle.session_log.specs.declared.faults.LogFault.{LogFault}
use Rattle.definitions.specs.declared.logs.LogWhy.TheVariants.{BadEntry}
use Rattle.definitions.specs.World.{Game, players_of}
use Rattle.definitions.specs.Entries.{is_well_formed}
use Rattle.session_log.specs.Entries.{entry_of, told_len}
use Rattle.session_log.specs.Finding.{digest_at, entry_at, is_torn, is_unchained, owned_by, text_at}
use Rattle.session_log.specs.Spelling.{first_chain}
use Rattle.session_log.specs.Reading.{Ending, Answer, ended, fault_at, answer_of, owned, step_behind, step_on, LogReading, Step, log_at_start, next_step, read_by, read_log, read_on, ReadLog, step_by, step_unless}
use Rattle.session_log.specs.Laws.{AreBytes}
use Rattle.session_log.specs.Writing.{going_on}
use Rattle.session_log.proofs.GoneOn.{log_goes_on}
use Rattle.session_log.proofs.Logs.{log_ends}
use Rattle.old_log.specs.declared.reading.OldLog.{OldLog}
use Rattle.old_log.specs.Old.{IsOld, fault_of, fault_said, is_anothers, old_entries}
use Rattle.old_log.proofs.Owners.{own_entries}

-- these entries and those behind them
abbrev in_front : List Entry → ReadLog → ReadLog
in_front entries l = record { entries = entries ++ l.entries; reader = l.reader }

-- the reader gave these entries, and what it gives with so many steps more is the rest of the log
abbrev pub IsReading : Game → List ℕ → List Entry → LogReading → Type 0
IsReading game bytes entries r = read_log game bytes ≡ in_front entries (read_by game bytes (length bytes + 1 - length entries) r)

-- a reader has read nothing yet
pub reading_start : (game : Game) (bytes : List ℕ) (r : LogReading) → r ≡ log_at_start game.id → IsReading game bytes [] r
unfolding read_log
reading_start game bytes r start =
    let by_steps : ℕ → ReadLog = λ n. read_by game bytes n (log_at_start game.id) in
    let by_reader : LogReading → ReadLog = λ q. read_by game bytes (length bytes + 1 - 0) q in
    let steps : suc (length bytes) ≡ length bytes + 1 - 0 = omega arith in
    ap by_steps steps ∙ ap by_reader (sym start)

-- the step of a reader whose log has ended
said_step : (game : Game) (bytes : List ℕ) (r : LogReading) (last : Ending) → r.said ≡ Some last → next_step game bytes r ≡ record { reader = r; answer = answer_of last }
unfolding next_step
said_step game bytes r last e = let P : Option Ending → Step = λ o. step_unless o r (step_by game r r.owner bytes) in ap P e

-- no entry comes behind the end
never_last : (e : Entry) (last : Ending) → answer_of last ≡ Ok (Some e) → ⊥
never_last e (Ok whole) is = cc
never_last e (Err fault) is = cc

-- what a reader has said of the log's end, where this comes next
abbrev SaidSo : Answer → LogReading → Type 0
SaidSo (Ok (Some e)) r = Unit {0}
SaidSo (Ok None) r = r.said ≡ Some (Ok tt)
SaidSo (Err fault) r = r.said ≡ Some (Err fault)

abbrev IsSaid : Step → Type 0
IsSaid s = SaidSo s.answer s.reader

-- what holds of both holds of the one that a test takes
either : {X : Type 0} (P : X → Type 0) (b : Bool) {x y : X} → P x → P y → P (if b then x else y)
either P true h k = h
either P false h k = k

owned_said : (game : Game) (r : LogReading) (me at count : ℕ) (digest : List ℕ) (o : Option Entry) → IsSaid (step_on r me at (owned_by game me o count digest))
owned_said game r me at count digest None = refl
owned_said game r me at count digest (Some e) = either (λ f. IsSaid (step_on r me at f)) (is_well_formed game me e) tt refl

on_said : (game : Game) (r : LogReading) (me at : ℕ) (chain bytes : List ℕ) → IsSaid (step_on r me at (entry_at game me chain bytes))
unfolding entry_at
on_said game r me at chain bytes =
    either (λ f. IsSaid (step_on r me at f)) (is_torn bytes) refl
    (either (λ f. IsSaid (step_on r me at f)) (is_unchained chain bytes) refl (owned_said game r me at (told_len bytes + 35) (digest_at bytes) (entry_of (text_at bytes))))

behind_said : (game : Game) (r : LogReading) (me : ℕ) (bytes : List ℕ) → IsSaid (step_behind game r me bytes)
behind_said game r me [] = refl
behind_said game r me (b ∷ bytes) = on_said game r me 1 (first_chain r.chain me) (b ∷ bytes)

either_said : (b : Bool) (s t : Step) → IsSaid s → IsSaid t → IsSaid (if b then s else t)
either_said true s t h k = h
either_said false s t h k = k

by_said : (game : Game) (r : LogReading) (o : Option ℕ) (bytes : List ℕ) → IsSaid (step_by game r o bytes)
by_said game r None [] = refl
by_said game r None (me ∷ bytes) = either_said (nat_lt me (players_of game)) (step_behind game r me bytes) (ended (owned r me) (Err (fault_at 0 BadEntry))) (behind_said game r me bytes) refl
by_said game r (Some me) bytes =
    either_said (nat_le (length bytes) r.at) (ended r (Ok tt)) (step_on r me r.at (entry_at game me r.chain (drop r.at bytes))) refl (on_said game r me r.at r.chain (drop r.at bytes))

unless_said : (o : Option Ending) (r : LogReading) (s : Step) → r.said ≡ o → IsSaid s → IsSaid (step_unless o r s)
unless_said None r s e h = h
unless_said (Some (Ok whole)) r s e h = e
unless_said (Some (Err fault)) r s e h = e

next_said : (game : Game) (bytes : List ℕ) (r : LogReading) → IsSaid (next_step game bytes r)
unfolding next_step
next_said game bytes r = unless_said r.said r (step_by game r r.owner bytes) refl (by_said game r r.owner bytes)

-- the fault with which the log ended is what comes next
fault_same : (answer : Answer) (r : LogReading) → ((e : Entry) → answer ≡ Ok (Some e) → ⊥) → SaidSo answer r → fault_of answer ≡ fault_said r.said
fault_same (Ok (Some e)) r none said = absurd (none e refl)
fault_same (Ok None) r none said = ap (λ (o : Option Ending). fault_said o) (sym said)
fault_same (Err fault) r none said = ap (λ (o : Option Ending). fault_said o) (sym said)

-- where no step is left, the log has ended
record IsThrough (r : LogReading) : Type 0 where
  last : Ending
  said : r.said ≡ Some last

through : (game : Game) (bytes : List ℕ) (r : LogReading) → AreBytes bytes → (read_log game bytes).reader ≡ r → IsThrough r
through game bytes r are same =
    let ends = log_ends game bytes are in
    record { last = ends.0; said = ap (λ (q : LogReading). q.said) (sym same) ∙ ends.1 }

-- what is read on after an answer
abbrev behind : Game → List ℕ → ℕ → Answer → LogReading → ReadLog
behind game bytes most answer r = read_on answer r (read_by game bytes most r)

-- what is read with one step more
one_step : (game : Game) (bytes : List ℕ) (most : ℕ) (r s : LogReading) (answer : Answer) → answer ≡ (next_step game bytes r).answer → s ≡ (next_step game bytes r).reader →
    read_by game bytes (suc most) r ≡ behind game bytes most answer s
one_step game bytes most r s answer a e =
    let by_answer : Answer → ReadLog = λ b. behind game bytes most b (next_step game bytes r).reader in
    let by_reader : LogReading → ReadLog = λ q. behind game bytes most answer q in
    ap by_answer (sym a) ∙ ap by_reader (sym e)

-- with an entry the reader reads on behind it, and the log has more entries than were given before
pub record ReadsOn (game : Game) (bytes : List ℕ) (entries : List Entry) (e : Entry) (s : LogReading) : Type 0 where
  pub reading : IsReading game bytes (entries ++ e ∷ []) s
  pub more : length entries < length (old_entries game bytes)

reads_by : (game : Game) (bytes : List ℕ) (entries : List Entry) (e : Entry) (r s : LogReading) (most : ℕ) → AreBytes bytes → read_log game bytes ≡ in_front entries (read_by game bytes most r) →
    most ≡ length bytes + 1 - length entries → Ok (Some e) ≡ (next_step game bytes r).answer → s ≡ (next_step game bytes r).reader → ReadsOn game bytes entries e s
reads_by game bytes entries e r s zero are all steps a k =
    let w = through game bytes r are (ap (λ (l : ReadLog). l.reader) all) in
    let gives : Ok (Some e) ≡ answer_of w.last = a ∙ ap (λ (t : Step). t.answer) (said_step game bytes r w.last w.said) in
    absurd (never_last e w.last (sym gives))
reads_by game bytes entries e r s (suc most) are all steps a k =
    let rest : ReadLog = read_by game bytes most s in
    let here : read_log game bytes ≡ record { entries = entries ++ (e ∷ rest.entries); reader = rest.reader }
    = all ∙ ap (λ (l : ReadLog). in_front entries l) (one_step game bytes most r s (Ok (Some e)) a k) in
    let with_entries : List Entry → ReadLog = λ es. record { entries = es; reader = rest.reader } in
    let count : length (entries ++ e ∷ []) ≡ length entries + 1 = length-append entries (e ∷ []) in
    let left : most ≡ length bytes + 1 - length (entries ++ e ∷ []) = omega arith in
    let by_steps : ℕ → ReadLog = λ n. in_front (entries ++ e ∷ []) (read_by game bytes n s) in
    let long = ap (λ (l : ReadLog). length l.entries) here in
    let longer = length-append entries (e ∷ rest.entries) in
    record { reading = here ∙ ap with_entries (sym (append_assoc entries (e ∷ []) rest.entries)) ∙ ap by_steps left; more = omega arith }

pub reads_on : (game : Game) (bytes : List ℕ) (entries : List Entry) (e : Entry) (r s : LogReading) → AreBytes bytes → IsReading game bytes entries r →
    Ok (Some e) ≡ (next_step game bytes r).answer → s ≡ (next_step game bytes r).reader → ReadsOn game bytes entries e s
reads_on game bytes entries e r s are all a k = reads_by game bytes entries e r s (length bytes + 1 - length entries) are all refl a k

-- with any other answer the reader has read all
ends_here : (game : Game) (bytes : List ℕ) (most : ℕ) (answer : Answer) (s : LogReading) → ((e : Entry) → answer ≡ Ok (Some e) → ⊥) → behind game bytes most answer s ≡ record { entries = []; reader = s }
ends_here game bytes most (Ok (Some e)) s none = absurd (none e refl)
ends_here game bytes most (Ok None) s none = refl
ends_here game bytes most (Err fault) s none = refl

ends_by : (game : Game) (bytes : List ℕ) (entries : List Entry) (answer : Answer) (r s : LogReading) (most : ℕ) → AreBytes bytes → read_log game bytes ≡ in_front entries (read_by game bytes most r) →
    ((e : Entry) → answer ≡ Ok (Some e) → ⊥) → answer ≡ (next_step game bytes r).answer → s ≡ (next_step game bytes r).reader → read_log game bytes ≡ record { entries = entries ++ []; reader = s }
ends_by game bytes entries answer r s zero are all none a k =
    let w = through game bytes r are (ap (λ (l : ReadLog). l.reader) all) in
    let same : r ≡ s = sym (k ∙ ap (λ (t : Step). t.reader) (said_step game bytes r w.last w.said)) in
    let by_reader : LogReading → ReadLog = λ q. record { entries = entries ++ []; reader = q } in
    all ∙ ap by_reader same
ends_by game bytes entries answer r s (suc most) are all none a k =
    all ∙ ap (λ (l : ReadLog). in_front entries l) (one_step game bytes most r s answer a k ∙ ends_here game bytes most answer s none)

-- what the reader then has read is what the log has, where the rest is told so
pub read_all : (game : Game) (me : ℕ) (bytes : List ℕ) (entries : List Entry) (answer : Answer) (r s : LogReading) (log : OldLog) → AreBytes bytes → IsReading game bytes entries r →
    ((e : Entry) → answer ≡ Ok (Some e) → ⊥) → answer ≡ (next_step game bytes r).answer → s ≡ (next_step game bytes r).reader →
    log.entries.items ≡ entries → log.anothers ≡ is_anothers me s.owner entries → log.fault ≡ fault_of answer → log.kept ≡ s.at → log.writer ≡ going_on s me → IsOld game me bytes log
read_all game me bytes entries answer r s log are all none a k held others fault kept writer =
    let here = ends_by game bytes entries answer r s (length bytes + 1 - length entries) are all none a k in
    let said : SaidSo answer s = subst (λ (x : Answer). SaidSo x s) (sym a) (subst (λ (q : LogReading). SaidSo (next_step game bytes r).answer q) (sym k) (next_said game bytes r)) in
    let l : ReadLog = read_log game bytes in
    let reader : s ≡ l.reader = sym (ap (λ (m : ReadLog). m.reader) here) in
    let given : entries ≡ l.entries = sym (append-nil entries) ∙ sym (ap (λ (m : ReadLog). m.entries) here) in
    let is : log.anothers ≡ is_anothers me l.reader.owner l.entries
    = others ∙ ap (λ (q : LogReading). is_anothers me q.owner entries) reader ∙ ap (λ (es : List Entry). is_anothers me l.reader.owner es) given in
    record {
      entries_are = held ∙ given;
      others_is = is;
      fault_is = fault ∙ fault_same answer s none said ∙ ap (λ (q : LogReading). fault_said q.said) reader;
      kept_is = λ own. kept ∙ ap (λ (q : LogReading). q.at) reader ∙ (log_goes_on game bytes me are (own_entries game me bytes (sym is ∙ own))).used_is;
      writer_is = λ own. writer ∙ ap (λ (q : LogReading). going_on q me) reader ∙ (log_goes_on game bytes me are (own_entries game me bytes (sym is ∙ own))).writer_is;
    }

pub none_comes : (e : Entry) → (let next : Answer = Ok None in next ≡ Ok (Some e)) → ⊥
none_comes e h = cc

pub fault_comes : (fault : LogFault) (e : Entry) → (let next : Answer = Err fault in next ≡ Ok (Some e)) → ⊥
fault_comes fault e h = cc

-- the items of bytes are bytes
pub are_bytes : (bytes : List ℕ) → ((i : ℕ) → Fits w8 (get_or bytes i 0)) → AreBytes bytes
are_bytes bytes fits i = Fits-lt-pow (fits i)
