-- Viewed: what changes of an auditor, as contracts see it, where an entry is taken.
use Rattle.std.proofs.Common.{◌≡◌, ◌+◌, ◌<◌, ℕ, Bool, List, Some, ap, arith, length, refl, subst, sym, ◌∙◌}
use Rattle.std.specs.Prelude.{[], ◌∷◌, None, OnOk, Option, Result, Ok, Err, map, slice_get}
use Rattle.std.specs.declared.alloc.AllocError.{AllocError}
use Rattle.definitions.specs.declared.logs.Entry.{Entry}
use Rattle.definitions.specs.World.{Game}
use Rattle.definition_laws.proofs.Nexts.{some_at}
use Rattle.frame_index.specs.Appended.{with_entry}
use Rattle.frame_index.specs.Frames.{IndexState, IsIndex}
use Rattle.frame_index.specs.declared.limits.TheConstants.{MOST_LOGS}
use Rattle.frame_index.specs.Heads.{Stand, front_of}
use Rattle.auditor.specs.declared.agreed.Readings.{Readings}
use Rattle.auditor.specs.declared.reading.Reading.{Reading}
use Rattle.auditor.specs.Reading.{AreUpTo, IsReadTurn, IsReadable}
use Rattle.auditor.specs.Audits.{AuditState, IsAuditOf, count_in, counts_after, crossed, crossed_logs, logs_after, owner_in, owners_with}
use Rattle.auditor.specs.Taking.{LeavesOthers, Takes}
use Rattle.auditor.proofs.Crossed.{crossed_length, crossed_there, crossed_with}
use Rattle.auditor.proofs.Counted.{counts_grown, length-with_entry, put_here, put_there}
use Rattle.definitions.proofs.Items.{item_is}

-- the auditor after an entry of the log was to be taken
abbrev pub after_entry : Result (Unit {0}) AllocError → AuditState → (log : ℕ) → (index made : IndexState) → AuditState
after_entry r a log index made = record { session = a.session; index = index; made = made; counts = counts_after r a.counts log; owners = a.owners }

-- one entry of the log more was counted, and all else stays
pub record CountsOne (a b : AuditState) (log : ℕ) : Type 0 where
  pub session : b.session ≡ a.session
  pub count : count_in b log ≡ count_in a log + 1
  pub others : (i : ℕ) → (i ≡ log → ⊥) → count_in b i ≡ count_in a i
  pub owners : (i : ℕ) → owner_in b i ≡ owner_in a i

pub counts_one : (a b : AuditState) (log : ℕ) (u : Unit {0}) → b ≡ after_entry (Ok u) a log b.index b.made → CountsOne a b log
counts_one a b log u after = record {
  session = ap (λ (x : AuditState). x.session) after;
  count = ap (λ (x : AuditState). count_in x log) after ∙ put_here 0 a.counts log (count_in a log + 1);
  others = λ i ne. ap (λ (x : AuditState). count_in x i) after ∙ put_there 0 a.counts log i (count_in a log + 1) ne;
  owners = λ i. ap (λ (x : AuditState). owner_in x i) after;
}

-- nothing was counted
pub record CountsNone (a b : AuditState) : Type 0 where
  pub session : b.session ≡ a.session
  pub counts : (i : ℕ) → count_in b i ≡ count_in a i
  pub owners : (i : ℕ) → owner_in b i ≡ owner_in a i

pub counts_none : (a b : AuditState) (log : ℕ) (e : AllocError) → b ≡ after_entry (Err e) a log b.index b.made → CountsNone a b
counts_none a b log e after = record {
  session = ap (λ (x : AuditState). x.session) after;
  counts = λ i. ap (λ (x : AuditState). count_in x i) after;
  owners = λ i. ap (λ (x : AuditState). owner_in x i) after;
}

-- an auditor of whose log the entry was taken stands for the logs with it
pub taken_stands : (a : AuditState) (index made : IndexState) (log entry : ℕ) (e : Entry) (u : Unit {0}) → log < MOST_LOGS → entry ≡ count_in a log →
    ((logs : List (List Entry)) (h : List Entry) → slice_get logs log ≡ Some h → entry ≡ length h → IsIndex a.session logs a.index → IsIndex a.session (with_entry logs log e) index) →
    ((logs : List (List Entry)) (h : List Entry) → slice_get logs log ≡ Some h → entry ≡ length h → IsIndex a.session logs a.made → IsIndex a.session (with_entry logs log (crossed e)) made) →
    (game : Game) (logs : List (List Entry)) → IsAuditOf game logs a → IsAuditOf game (with_entry logs log e) (after_entry (Ok u) a log index made)
taken_stands a index made log entry e u lt is got own game logs w =
    let many = w.many in
    let there = some_at logs log (omega (arith, lt, many)) in
    let last : entry ≡ length there.0 = is ∙ w.counted log there.0 there.1 in
    let old = subst (λ (g : Game). IsIndex g logs a.index) (sym w.session) w.index in
    let new = got logs there.0 there.1 last old in
    let old_made = subst (λ (g : Game). IsIndex g (crossed_logs logs) a.made) (sym w.session) w.made in
    let new_made = own (crossed_logs logs) (map crossed there.0) (crossed_there logs log there.0 there.1) (last ∙ sym (crossed_length there.0)) old_made in
    record {
      session = w.session;
      many = length-with_entry logs log e ∙ many;
      index = subst (λ (g : Game). IsIndex g (with_entry logs log e) index) w.session new;
      made = subst (λ (g : Game). IsIndex g (crossed_logs (with_entry logs log e)) made) w.session
          (subst (λ (ls : List (List Entry)). IsIndex a.session ls made) (crossed_with logs log e) new_made);
      counted = counts_grown logs a.counts log there.0 e there.1 w.counted;
    }

-- one of which none was taken stands for the logs
pub untaken_stands : (a : AuditState) (index made : IndexState) (log : ℕ) (e : AllocError) →
    ((logs : List (List Entry)) → IsIndex a.session logs a.index → IsIndex a.session logs index) → ((logs : List (List Entry)) → IsIndex a.session logs a.made → IsIndex a.session logs made) →
    (game : Game) (logs : List (List Entry)) → IsAuditOf game logs a → IsAuditOf game logs (after_entry (Err e) a log index made)
untaken_stands a index made log e got own game logs w = record {
  session = w.session;
  many = w.many;
  index = subst (λ (g : Game). IsIndex g logs index) w.session (got logs (subst (λ (g : Game). IsIndex g logs a.index) (sym w.session) w.index));
  made = subst (λ (g : Game). IsIndex g (crossed_logs logs) made) w.session (own (crossed_logs logs) (subst (λ (g : Game). IsIndex g (crossed_logs logs) a.made) (sym w.session) w.made));
  counted = w.counted;
}

-- the log has an owner, and all else stays
pub record Names (a b : AuditState) (log : ℕ) (owner : Option ℕ) : Type 0 where
  pub session : b.session ≡ a.session
  pub counts : (i : ℕ) → count_in b i ≡ count_in a i
  pub owner_is : owner_in b log ≡ owner
  pub others : (i : ℕ) → (i ≡ log → ⊥) → owner_in b i ≡ owner_in a i

pub names_one : (a b : AuditState) (log : ℕ) (owner : Option ℕ) → b ≡ record { session = a.session; index = a.index; made = a.made; counts = a.counts; owners = owners_with a.owners log owner } → Names a b log owner
names_one a b log owner after =
    let owners : List (Option ℕ) = owners_with a.owners log owner in
    record {
      session = ap (λ (x : AuditState). x.session) after;
      counts = λ i. ap (λ (x : AuditState). count_in x i) after;
      owner_is = ap (λ (x : AuditState). owner_in x log) after ∙ sym (item_is owners log None) ∙ put_here None a.owners log owner;
      others = λ i ne. ap (λ (x : AuditState). owner_in x i) after ∙ sym (item_is owners i None) ∙ put_there None a.owners log i owner ne ∙ item_is a.owners i None;
    }

-- what was read of a turn by what an auditor keeps is read as of its session
pub got_read : (a b : AuditState) → b ≡ a → (q t : ℕ) (logs : List (List Entry)) (old : Readings) (got : Reading) →
    (Stand b.session q logs (front_of b.session t) old.got.after → IsReadTurn b.session q logs t got) → AreUpTo a q logs t old → IsReadTurn a.session q logs t got
got_read a b same q t logs old got read up =
    subst (λ (x : AuditState). IsReadTurn x.session q logs t got) same (read ((subst (λ (x : AuditState). AreUpTo x q logs t old) (sym same) up).got))

pub made_read : (a b : AuditState) → b ≡ a → (q t : ℕ) (logs : List (List Entry)) (old : Readings) (made : Reading) →
    (Stand b.session q (crossed_logs logs) (front_of b.session t) old.made.after → IsReadTurn b.session q (crossed_logs logs) t made) → AreUpTo a q logs t old →
    IsReadTurn a.session q (crossed_logs logs) t made
made_read a b same q t logs old made read up =
    subst (λ (x : AuditState). IsReadTurn x.session q (crossed_logs logs) t made) same (read ((subst (λ (x : AuditState). AreUpTo x q logs t old) (sym same) up).made))

-- and so before the first turn
pub none_read : (a b : AuditState) → b ≡ a → (q : ℕ) (logs : List (List Entry)) (r : Readings) → (IsReadable b logs → Stand b.session q logs (front_of b.session 0) r.got.after) →
    (IsReadable b logs → Stand b.session q (crossed_logs logs) (front_of b.session 0) r.made.after) → IsReadable a logs → AreUpTo a q logs 0 r
none_read a b same q logs r got made w =
    let v : IsReadable b logs = subst (λ (x : AuditState). IsReadable x logs) (sym same) w in
    subst (λ (x : AuditState). AreUpTo x q logs 0 r) same (record { got = got v; made = made v })

-- what was counted, whether memory was wanting or not
pub record Counts (r : Result (Unit {0}) AllocError) (a b : AuditState) (log : ℕ) : Type 0 where
  pub session : b.session ≡ a.session
  pub owner : owner_in b log ≡ owner_in a log
  pub others : LeavesOthers a b log
  pub counted : OnOk r (count_in b log ≡ count_in a log + 1)

pub counts_of : (r : Result (Unit {0}) AllocError) (a b : AuditState) (log : ℕ) → b ≡ after_entry r a log b.index b.made → Counts r a b log
counts_of (Ok u) a b log after =
    let one = counts_one a b log u after in
    record { session = one.session; owner = one.owners log; others = λ i ne. (one.others i ne, one.owners i); counted = one.count }
counts_of (Err e) a b log after =
    let none = counts_none a b log e after in
    record { session = none.session; owner = none.owners log; others = λ i ne. (none.counts i, none.owners i); counted = tt }

-- and which entry was taken
pub takes_one : (r : Result (Unit {0}) AllocError) (a b : AuditState) (log : ℕ) (e : Entry) → ((game : Game) (logs : List (List Entry)) → IsAuditOf game logs a → IsAuditOf game (logs_after r logs log e) b) →
    OnOk r (Takes a b log (e ∷ []))
takes_one (Ok u) a b log e stands = λ game logs w. stands game logs w
takes_one (Err x) a b log e stands = tt
