-- Moves: what an item does to the log kept and to the place of the last sync.
use Rattle.std.proofs.Common.{◌≡◌, ◌⊎◌, inl, inr, ℕ, ◌-◌, true, false, refl, sym, ap, ◌∙◌, List, ◌++◌, arith, length, take, drop, length-append}
use Rattle.std.specs.Prelude.{Bool, ◌&&◌, ◌||◌, Option, Some, None}
use Rattle.std.proofs.lemmas.Bool.{and_parts, false≢true, or_left}
use Rattle.std.proofs.lemmas.List.{take_at, drop_at}
use Rattle.std.proofs.lemmas.Slice.Eq.{bytes_eq-Decides}
use Rattle.definitions.specs.declared.logs.Entry.{Entry}
use Rattle.session_log.specs.Spelling.{entry_text, chained}
use Rattle.session_log.specs.Entries.{entry_of}
use Rattle.session_log.specs.Writing.{Writing, chain_of, mark_of, written}
use Rattle.session_log.proofs.Found.{length-sha256}
use Rattle.socket_station.specs.Items.{Item, ListenCall, LogCall, DialCall, PollCall, ReadCall, WriteCall, KeepCall, SyncCall, Listening, LogBegun, Dialled, Polled, Took, Gave, ReadNotYet, WriteNotYet, Ended, Failed, Shut, Kept, Synced}
use Rattle.socket_station.specs.Moved.{Log, log_after}
use Rattle.peer_rules.specs.declared.phases.Phase.{Phase}
use Rattle.peer_rules.specs.declared.phases.Phase.TheVariants.{Logged, Running, KeepFault, PollFault}
use Rattle.loop_rules.specs.Tables.{Table}
use Rattle.loop_rules.specs.Views.{View}
use Rattle.loop_rules.specs.Keeping.{may_keep_in, may_keep_as, with_entry, kept_entry}
use Rattle.peer_rules.specs.Entries.{entry_in}
use Rattle.loop_rules.specs.After.{after, with_table}
use Rattle.peer_rules.specs.Phases.{is_running, is_logged, is_early}
use Rattle.loop_rules.specs.Rules.{is_over_kept, is_allowed}
use Rattle.loop_rules.proofs.Kept.{Keeps, keeps_took, keeps_sorted}

-- the entries taken over are kept: the loop listens, or is about to
abbrev pub HasOver : View → Type 0
HasOver v = (is_running v.phase || (is_logged v.phase && is_over_kept v)) ≡ true

-- an entry is read from its text
abbrev pub IsRead : Entry → Type 0
IsRead e = entry_of (entry_text e) ≡ Some e

-- the item changes nothing of these
pub record Rests (v : View) (item : Item) (w : View) : Type 0 where
  pub kept : w.kept ≡ v.kept
  pub writer : w.writer ≡ v.writer
  pub setting : w.setting ≡ v.setting
  pub synced : w.synced ≡ v.synced
  pub early : is_early w.phase ≡ true → is_early v.phase ≡ true
  pub running : is_running w.phase ≡ true → HasOver v
  pub log : (l : Log) → log_after l item ≡ l

-- the item kept an entry
pub record Adds (v : View) (item : Item) (w : View) : Type 0 where
  pub entry : Entry
  pub is_kept : item ≡ Kept (written v.writer entry)
  pub read : IsRead entry
  pub may : may_keep_in v.phase v entry ≡ true
  pub keeps : Keeps (with_entry entry v) w

-- the item was a sync
pub record Syncs (v : View) (item : Item) (w : View) : Type 0 where
  pub is_synced : item ≡ Synced
  pub has : HasOver v
  pub view : w ≡ record v { synced = length v.kept }

abbrev pub Moves : View → Item → View → Type 0
Moves v item w = Rests v item w ⊎ (Adds v item w ⊎ Syncs v item w)

-- an entry that is found in the bytes written for it is read from its text
pub read_in : (w : Writing) (e : Entry) → entry_in w (written w e) ≡ Some e → IsRead e
read_in w e h =
    let mark : List ℕ = mark_of w in
    let text : List ℕ = entry_text e in
    let digest : List ℕ = chained (chain_of w) text in
    let hashed : length digest ≡ 32 = length-sha256 (chain_of w ++ text) in
    let long : length text ≡ length (mark ++ (text ++ digest)) - length mark - 32 = omega (arith, length-append mark (text ++ digest), length-append text digest) in
    let cut : take (length (mark ++ (text ++ digest)) - length mark - 32) (drop (length mark) (mark ++ (text ++ digest))) ≡ text
    = ap (take (length (mark ++ (text ++ digest)) - length mark - 32)) (drop_at mark (text ++ digest) (length mark) refl) ∙ take_at text digest _ long in
    ap entry_of (sym cut) ∙ h

either : (a b : Bool) → b ≡ true → (a || b) ≡ true
either true b h = refl
either false b h = h

has_running : (v : View) → is_running v.phase ≡ true → HasOver v
has_running v h = rw h refl

rests_table : (v : View) (item : Item) (t : Table) → ((l : Log) → log_after l item ≡ l) → Moves v item (with_table t v)
rests_table v item t log = inl (record { kept = refl; writer = refl; setting = refl; synced = refl; early = λ e. e; running = has_running v; log = log })

rests_phase : (v : View) (item : Item) (p : Phase) → (is_early p ≡ true → is_early v.phase ≡ true) → (is_running p ≡ true → HasOver v) → ((l : Log) → log_after l item ≡ l) → Moves v item (record v { phase = p })
rests_phase v item p early running log = inl (record { kept = refl; writer = refl; setting = refl; synced = refl; early = early; running = running; log = log })

pub adds_entry : (v : View) (bytes : List ℕ) (o : Option Entry) → entry_in v.writer bytes ≡ o → may_keep_as v bytes o ≡ true → Adds v (Kept bytes) (kept_entry v o)
adds_entry v bytes None is h = absurd (false≢true h)
adds_entry v bytes (Some e) is h =
    let both = and_parts _ _ h in
    let same : bytes ≡ written v.writer e = (bytes_eq-Decides bytes (written v.writer e)).0 both.0 in
    record {
      entry = e;
      is_kept = ap (λ (x : List ℕ). Kept x) same;
      read = read_in v.writer e (ap (entry_in v.writer) (sym same) ∙ is);
      may = both.1;
      keeps = keeps_sorted (with_entry e v).table.waiting (with_entry e v);
    }

-- each item that is allowed moves so
pub moves : (v : View) (item : Item) → is_allowed v item ≡ true → Moves v item (after v item)
moves v (LogBegun name) h = rests_phase v (LogBegun name) Logged (λ e. or_left _ _ h) (λ e. absurd (false≢true e)) (λ l. refl)
moves v (Listening addr) h = rests_phase v (Listening addr) Running (λ e. absurd (false≢true e)) (λ e. either (is_running v.phase) _ (and_parts _ _ (and_parts _ _ h).0).0) (λ l. refl)
moves v (Dialled s q addr) h = rests_table v (Dialled s q addr) _ (λ l. refl)
moves v (Polled list) h = rests_table v (Polled list) _ (λ l. refl)
moves v (Took s bytes) h =
    let k = keeps_took v s bytes in
    inl (record { kept = k.kept; writer = k.writer; setting = k.setting; synced = k.synced; early = λ e. ap is_early (sym k.phase) ∙ e; running = λ e. has_running v (ap is_running (sym k.phase) ∙ e); log = λ l. refl })
moves v (Gave s bytes) h = rests_table v (Gave s bytes) _ (λ l. refl)
moves v (ReadNotYet s) h = rests_table v (ReadNotYet s) _ (λ l. refl)
moves v (WriteNotYet s) h = rests_table v (WriteNotYet s) _ (λ l. refl)
moves v (Ended s) h = rests_table v (Ended s) _ (λ l. refl)
moves v (Shut s) h = rests_table v (Shut s) _ (λ l. refl)
moves v (Kept bytes) h = inr (inl (adds_entry v bytes (entry_in v.writer bytes) refl h))
moves v Synced h = inr (inr (record { is_synced = refl; has = (and_parts _ _ h).0; view = refl }))
moves v (Failed (ListenCall addr)) h = rests_phase v (Failed (ListenCall addr)) PollFault (λ e. absurd (false≢true e)) (λ e. absurd (false≢true e)) (λ l. refl)
moves v (Failed (LogCall name)) h = rests_phase v (Failed (LogCall name)) KeepFault (λ e. absurd (false≢true e)) (λ e. absurd (false≢true e)) (λ l. refl)
moves v (Failed (DialCall q addr)) h = rests_table v (Failed (DialCall q addr)) _ (λ l. refl)
moves v (Failed PollCall) h = rests_phase v (Failed PollCall) PollFault (λ e. absurd (false≢true e)) (λ e. absurd (false≢true e)) (λ l. refl)
moves v (Failed (ReadCall s)) h = rests_table v (Failed (ReadCall s)) _ (λ l. refl)
moves v (Failed (WriteCall s)) h = rests_table v (Failed (WriteCall s)) _ (λ l. refl)
moves v (Failed (KeepCall bytes)) h = rests_phase v (Failed (KeepCall bytes)) KeepFault (λ e. absurd (false≢true e)) (λ e. absurd (false≢true e)) (λ l. refl)
moves v (Failed SyncCall) h = rests_phase v (Failed SyncCall) KeepFault (λ e. absurd (false≢true e)) (λ e. absurd (false≢true e)) (λ l. refl)
