-- Kept: no item but a Kept changes the log, so the bytes kept are those of the entries.
use Rattle.std.proofs.Common.{◌≡◌, ℕ, Bool, true, false, refl, sym, ap, ◌∙◌, List, [], ◌∷◌, ◌++◌, append_assoc, append-nil}
use Rattle.std.specs.Prelude.{Option, Some, None, not, if◌then◌else◌}
use Rattle.std.proofs.lemmas.Bool.{and_parts}
use Rattle.std.proofs.lemmas.Slice.Eq.{bytes_eq-Decides}
use Rattle.definitions.specs.declared.logs.Entry.{Entry}
use Rattle.definitions.specs.Findings.{is_clean}
use Rattle.definitions.specs.Answers.{is_far}
use Rattle.session_log.specs.Spelling.{log_bytes}
use Rattle.session_log.specs.Writing.{Writing, all_written}
use Rattle.session_log.specs.Writing as W
use Rattle.session_log.proofs.Logs.{log_written}
use Rattle.socket_station.specs.Items.{Item, ListenCall, LogCall, DialCall, PollCall, ReadCall, WriteCall, KeepCall, SyncCall, Listening, LogBegun, Dialled, Polled, Took, Gave, ReadNotYet, WriteNotYet, Ended, Failed, Shut, Kept, Synced}
use Rattle.socket_station.specs.Moved.{kept_in}
use Rattle.socket_lines.specs.Seats.{asks}
use Rattle.peer_rules.specs.declared.arrivals.Arrival.{Arrival}
use Rattle.loop_rules.specs.Tables.{at_seat}
use Rattle.loop_rules.specs.Views.{View, start}
use Rattle.loop_rules.specs.Hearing.{took_on}
use Rattle.loop_rules.specs.Handling.{with_waiting, hearer_of, next_of, passed, is_new_to, sorted, sorted_out}
use Rattle.loop_rules.specs.Keeping.{may_keep_as, with_entry, kept_entry}
use Rattle.peer_rules.specs.Entries.{entry_in}
use Rattle.loop_rules.specs.After.{after, with_table, view_after}
use Rattle.loop_rules.specs.Rules.{is_allowed}
use Rattle.loop_rules.specs.Histories.{are_allowed}
use Rattle.loop_rules.specs.Laws.{KeptBytesAreTheLog}

-- the same log and writer of the next entry, the same setting and phase, and the same place of the last sync
pub record Keeps (v w : View) : Type 0 where
  pub kept : w.kept ≡ v.kept
  pub writer : w.writer ≡ v.writer
  pub setting : w.setting ≡ v.setting
  pub phase : w.phase ≡ v.phase
  pub synced : w.synced ≡ v.synced

-- the same log and writer
abbrev pub KeepsLog : View → View → Type 0
KeepsLog v w = (w.kept ≡ v.kept) × (w.writer ≡ v.writer)

pub keeps_same : (v w : View) → w.kept ≡ v.kept → w.writer ≡ v.writer → w.setting ≡ v.setting → w.phase ≡ v.phase → w.synced ≡ v.synced → Keeps v w
keeps_same v w a b c d e = record { kept = a; writer = b; setting = c; phase = d; synced = e }

pub then_keeps : (u v w : View) → Keeps u v → Keeps v w → Keeps u w
then_keeps u v w a b = keeps_same u w (b.kept ∙ a.kept) (b.writer ∙ a.writer) (b.setting ∙ a.setting) (b.phase ∙ a.phase) (b.synced ∙ a.synced)

keeps_either : (b : Bool) (v x y : View) → Keeps v x → Keeps v y → Keeps v (if b then x else y)
keeps_either true v x y a c = a
keeps_either false v x y a c = c

pub keeps_passed : (v : View) (a : Arrival) → Keeps v (passed v a)
keeps_passed v a =
    let w = record v { table = at_seat a.player (asks (next_of v a.player)) v.table } in
    keeps_either (is_far v.setting.game v.setting.me v.kept a.player a.frame) v w v (keeps_same v w refl refl refl refl refl) (keeps_same v v refl refl refl refl refl)

pub keeps_waiting : (waiting : List Arrival) (v : View) → Keeps v (with_waiting waiting v)
keeps_waiting waiting v = keeps_same v (with_waiting waiting v) refl refl refl refl refl

pub keeps_sorted : (arrivals : List Arrival) (v : View) → Keeps v (sorted arrivals v)
keeps_sorted [] v = keeps_waiting [] v
keeps_sorted (a ∷ more) v =
    keeps_either (not (is_clean v.setting.game v.kept)) v (with_waiting [] v) (if is_new_to v a then with_waiting (a ∷ more) v else sorted more (passed v a))
    (keeps_waiting [] v)
    (keeps_either (is_new_to v a) v (with_waiting (a ∷ more) v) (sorted more (passed v a)) (keeps_waiting (a ∷ more) v)
    (then_keeps v (passed v a) (sorted more (passed v a)) (keeps_passed v a) (keeps_sorted more (passed v a))))

pub keeps_took : (v : View) (s : ℕ) (bytes : List ℕ) → Keeps v (after v (Took s bytes))
keeps_took v s bytes =
    let w = with_table (took_on (hearer_of v) s bytes v.table) v in
    let k = keeps_sorted w.table.waiting w in
    keeps_same v (sorted_out w) k.kept k.writer k.setting k.phase k.synced

log_kept : (v w : View) → Keeps v w → KeepsLog v w
log_kept v w k = (k.kept, k.writer)

-- entries that the items kept, behind those of the view
abbrev pub Adds : View → (behind : View) → (bytes : List ℕ) → Type 0
Adds v behind bytes = (es : List Entry) × (behind.kept ≡ v.kept ++ es) × (bytes ≡ all_written v.writer es)

adds_more : (v w behind : View) (bytes : List ℕ) → KeepsLog v w → Adds w behind bytes → Adds v behind bytes
adds_more v w behind bytes k r = (r.0, r.1 ∙ ap (λ (x : List Entry). x ++ r.0) k.0, r.2 ∙ ap (λ (x : Writing). all_written x r.0) k.1)

adds_entry : (v behind : View) (bytes more : List ℕ) (o : Option Entry) → may_keep_as v bytes o ≡ true → Adds (kept_entry v o) behind more → Adds v behind (bytes ++ more)
adds_entry v behind bytes more None h r = absurd (cc)
adds_entry v behind bytes more (Some e) h r =
    let k = keeps_sorted (with_entry e v).table.waiting (with_entry e v) in
    let same : bytes ≡ W.written v.writer e = (bytes_eq-Decides bytes (W.written v.writer e)).0 (and_parts _ _ h).0 in (
      e ∷ r.0,
      r.1 ∙ ap (λ (x : List Entry). x ++ r.0) k.kept ∙ append_assoc v.kept (e ∷ []) r.0,
      ap (λ (x : List ℕ). x ++ more) same ∙ ap (λ (x : List ℕ). W.written v.writer e ++ x) (r.2 ∙ ap (λ (x : Writing). all_written x r.0) k.writer),
    )

adds_by : (v behind : View) (item : Item) (items : List Item) → is_allowed v item ≡ true → Adds (after v item) behind (kept_in items) → Adds v behind (kept_in (item ∷ items))
adds_by v behind (LogBegun name) items h r = adds_more v (after v (LogBegun name)) behind (kept_in items) (refl, refl) r
adds_by v behind (Listening addr) items h r = adds_more v (after v (Listening addr)) behind (kept_in items) (refl, refl) r
adds_by v behind (Dialled s q addr) items h r = adds_more v (after v (Dialled s q addr)) behind (kept_in items) (refl, refl) r
adds_by v behind (Polled list) items h r = adds_more v (after v (Polled list)) behind (kept_in items) (refl, refl) r
adds_by v behind (Took s bytes) items h r = adds_more v (after v (Took s bytes)) behind (kept_in items) (log_kept v (after v (Took s bytes)) (keeps_took v s bytes)) r
adds_by v behind (Gave s bytes) items h r = adds_more v (after v (Gave s bytes)) behind (kept_in items) (refl, refl) r
adds_by v behind (ReadNotYet s) items h r = adds_more v (after v (ReadNotYet s)) behind (kept_in items) (refl, refl) r
adds_by v behind (WriteNotYet s) items h r = adds_more v (after v (WriteNotYet s)) behind (kept_in items) (refl, refl) r
adds_by v behind (Ended s) items h r = adds_more v (after v (Ended s)) behind (kept_in items) (refl, refl) r
adds_by v behind (Shut s) items h r = adds_more v (after v (Shut s)) behind (kept_in items) (refl, refl) r
adds_by v behind (Kept bytes) items h r = adds_entry v behind bytes (kept_in items) (entry_in v.writer bytes) h r
adds_by v behind Synced items h r = adds_more v (after v Synced) behind (kept_in items) (refl, refl) r
adds_by v behind (Failed (ListenCall addr)) items h r = adds_more v (after v (Failed (ListenCall addr))) behind (kept_in items) (refl, refl) r
adds_by v behind (Failed (LogCall name)) items h r = adds_more v (after v (Failed (LogCall name))) behind (kept_in items) (refl, refl) r
adds_by v behind (Failed (DialCall q addr)) items h r = adds_more v (after v (Failed (DialCall q addr))) behind (kept_in items) (refl, refl) r
adds_by v behind (Failed PollCall) items h r = adds_more v (after v (Failed PollCall)) behind (kept_in items) (refl, refl) r
adds_by v behind (Failed (ReadCall s)) items h r = adds_more v (after v (Failed (ReadCall s))) behind (kept_in items) (refl, refl) r
adds_by v behind (Failed (WriteCall s)) items h r = adds_more v (after v (Failed (WriteCall s))) behind (kept_in items) (refl, refl) r
adds_by v behind (Failed (KeepCall bytes)) items h r = adds_more v (after v (Failed (KeepCall bytes))) behind (kept_in items) (refl, refl) r
adds_by v behind (Failed SyncCall) items h r = adds_more v (after v (Failed SyncCall)) behind (kept_in items) (refl, refl) r

adds : (v : View) (items : List Item) → are_allowed v items ≡ true → Adds v (view_after v items) (kept_in items)
adds v [] h = ([], sym (append-nil v.kept), refl)
adds v (item ∷ items) h =
    let p = and_parts _ _ h in
    adds_by v (view_after (after v item) items) item items p.0 (adds (after v item) items p.1)

pub kept_bytes_are_the_log : KeptBytesAreTheLog
kept_bytes_are_the_log s items h =
    let r = adds (start s) items h in
    r.2 ∙ log_written s.game.id s.me r.0 ∙ ap (log_bytes s.game.id s.me) (sym r.1)
