-- Ends: after a fault of the log, of listening or of a poll nothing may come; and what is given is due.
use Rattle.std.proofs.Common.{◌≡◌, inl, inr, ℕ, Bool, true, false, refl, List, [], ◌∷◌}
use Rattle.std.specs.Prelude.{Option, Some, None, is_some}
use Rattle.std.proofs.lemmas.Bool.{and_parts, or_cases}
use Rattle.definitions.specs.declared.logs.Entry.{Entry}
use Rattle.socket_station.specs.declared.answers.Addr.{Addr}
use Rattle.socket_station.specs.Items.{Item, Call, ListenCall, LogCall, DialCall, PollCall, ReadCall, WriteCall, KeepCall, SyncCall, Listening, LogBegun, Dialled, Polled, Took, Gave, ReadNotYet, WriteNotYet, Ended, Failed, Shut, Kept, Synced}
use Rattle.socket_lines.specs.declared.line.Line.{Line}
use Rattle.socket_lines.specs.declared.seat.Seat.{Seat}
use Rattle.peer_rules.specs.declared.phases.Phase.{Phase}
use Rattle.peer_rules.specs.declared.phases.Phase.TheVariants.{Fresh, Logged, Running, KeepFault, PollFault}
use Rattle.loop_rules.specs.Tables.{asks_shut, line_of, seat_of}
use Rattle.loop_rules.specs.Views.{View, start}
use Rattle.loop_rules.specs.Keeping.{may_keep_in, may_keep_as}
use Rattle.peer_rules.specs.Entries.{entry_in}
use Rattle.loop_rules.specs.After.{after, after_failed, view_of}
use Rattle.loop_rules.specs.Licence.{is_licensed}
use Rattle.peer_rules.specs.Phases.{is_running, is_fresh, is_logged}
use Rattle.loop_rules.specs.Rules.{may_listen, may_sync, may_dial_at, may_write_line, is_allowed, wants_read}
use Rattle.loop_rules.specs.Histories.{are_allowed, log_name}
use Rattle.loop_rules.specs.Laws.{FaultsAreLast, LogsAreBegunFirst, ends_run}
use Rattle.loop_rules.proofs.Prefixes.{behind}
use Rattle.loop_rules.proofs.Serving.{serves, serving_where}

-- the run ended in a fault
abbrev pub is_ended : Phase → Bool
is_ended Fresh = false
is_ended Logged = false
is_ended Running = false
is_ended KeepFault = true
is_ended PollFault = true

-- nothing may come but the begin of the log
abbrev pub is_still : Phase → Bool
is_still Fresh = true
is_still Logged = false
is_still Running = false
is_still KeepFault = true
is_still PollFault = true

ended_is_still : (p : Phase) → is_ended p ≡ true → is_still p ≡ true
ended_is_still Fresh e = refl
ended_is_still Logged e = e
ended_is_still Running e = e
ended_is_still KeepFault e = refl
ended_is_still PollFault e = refl

not_running : (p : Phase) → is_still p ≡ true → is_running p ≡ true → ⊥
not_running Fresh e r = cc
not_running p e r = cc

not_logged : (p : Phase) → is_still p ≡ true → is_logged p ≡ true → ⊥
not_logged Fresh e r = cc
not_logged p e r = cc

not_fresh : (p : Phase) → is_ended p ≡ true → is_fresh p ≡ true → ⊥
not_fresh Fresh e r = cc
not_fresh p e r = cc

not_keeping : (p : Phase) (v : View) (entry : Entry) → is_still p ≡ true → may_keep_in p v entry ≡ true → ⊥
not_keeping Fresh v entry e r = cc
not_keeping p v entry e r = cc

no_keep : (v : View) (bytes : List ℕ) (o : Option Entry) → is_still v.phase ≡ true → may_keep_as v bytes o ≡ true → ⊥
no_keep v bytes None e h = cc
no_keep v bytes (Some entry) e h = not_keeping v.phase v entry e (and_parts _ _ h).1

no_listen : (v : View) (addr : Addr) → is_still v.phase ≡ true → may_listen v addr ≡ true → ⊥
no_listen v addr e h = not_logged v.phase e (and_parts _ _ (and_parts _ _ (and_parts _ _ h).0).0).0

no_sync : (v : View) → is_still v.phase ≡ true → may_sync v ≡ true → ⊥
no_sync v e h = elim (or_cases _ _ (and_parts _ _ h).0) [
  | inl running ↦ not_running v.phase e running
  | inr logged ↦ not_logged v.phase e (and_parts _ _ logged).0
]

no_dial : (v : View) (addr : Addr) (o : Option Seat) → is_still v.phase ≡ true → may_dial_at v addr o ≡ true → ⊥
no_dial v addr None e h = cc
no_dial v addr (Some c) e h = not_running v.phase e (and_parts _ _ (and_parts _ _ (and_parts _ _ h).0).0).0

no_line : (asks : Line → Bool) (v : View) (o : Option Line) → is_still v.phase ≡ true → serves asks v o ≡ true → ⊥
no_line asks v o e h = not_running v.phase e (and_parts _ _ (serving_where asks v o h)).0

no_write : (v : View) (o : Option Line) → is_still v.phase ≡ true → may_write_line v o ≡ true → ⊥
no_write v None e h = cc
no_write v (Some l) e h = not_running v.phase e (and_parts _ _ (and_parts _ _ (and_parts _ _ (and_parts _ _ (and_parts _ _ h).0).0).0).0).0

no_poll : (v : View) → is_still v.phase ≡ true → is_licensed v ≡ true → ⊥
no_poll v e h = not_running v.phase e (and_parts _ _ (and_parts _ _ (and_parts _ _ (and_parts _ _ (and_parts _ _ (and_parts _ _ h).0).0).0).0).0).0

-- an item that begins a log, at the start
abbrev pub Begins : View → Item → Type 0
Begins v item = (is_some (log_name item) ≡ true) × (is_fresh v.phase ≡ true)

still_begins : (v : View) (item : Item) → is_still v.phase ≡ true → is_allowed v item ≡ true → Begins v item
still_begins v (LogBegun name) e h = (refl, h)
still_begins v (Listening addr) e h = absurd (no_listen v addr e h)
still_begins v (Dialled s q addr) e h = absurd (no_dial v addr (seat_of v.table q) e h)
still_begins v (Polled list) e h = absurd (no_poll v e h)
still_begins v (Took s bytes) e h = absurd (no_line (wants_read v.table) v (line_of v.table s) e (and_parts _ _ (and_parts _ _ h).0).0)
still_begins v (Gave s bytes) e h = absurd (no_write v (line_of v.table s) e (and_parts _ _ h).0)
still_begins v (ReadNotYet s) e h = absurd (no_line (wants_read v.table) v (line_of v.table s) e h)
still_begins v (WriteNotYet s) e h = absurd (no_write v (line_of v.table s) e h)
still_begins v (Ended s) e h = absurd (no_line (wants_read v.table) v (line_of v.table s) e h)
still_begins v (Shut s) e h = absurd (no_line (asks_shut v.table) v (line_of v.table s) e h)
still_begins v (Kept bytes) e h = absurd (no_keep v bytes (entry_in v.writer bytes) e h)
still_begins v Synced e h = absurd (no_sync v e h)
still_begins v (Failed (ListenCall addr)) e h = absurd (no_listen v addr e h)
still_begins v (Failed (LogCall name)) e h = (refl, h)
still_begins v (Failed (DialCall q addr)) e h = absurd (no_dial v addr (seat_of v.table q) e h)
still_begins v (Failed PollCall) e h = absurd (no_poll v e h)
still_begins v (Failed (ReadCall s)) e h = absurd (no_line (wants_read v.table) v (line_of v.table s) e h)
still_begins v (Failed (WriteCall s)) e h = absurd (no_write v (line_of v.table s) e h)
still_begins v (Failed (KeepCall bytes)) e h = absurd (no_keep v bytes (entry_in v.writer bytes) e h)
still_begins v (Failed SyncCall) e h = absurd (no_sync v e h)

no_item : (v : View) (item : Item) → is_ended v.phase ≡ true → is_allowed v item ≡ true → ⊥
no_item v item e h = not_fresh v.phase e (still_begins v item (ended_is_still v.phase e) h).1

pub logs_are_begun_first : LogsAreBegunFirst
logs_are_begun_first s item more h = (still_begins (start s) item refl (and_parts _ _ h).0).0

ended_behind : (v : View) (call : Call) → ends_run call ≡ true → is_ended (after_failed v call).phase ≡ true
ended_behind v (ListenCall addr) e = refl
ended_behind v (LogCall name) e = refl
ended_behind v (DialCall q addr) e = absurd (cc)
ended_behind v PollCall e = refl
ended_behind v (ReadCall s) e = absurd (cc)
ended_behind v (WriteCall s) e = absurd (cc)
ended_behind v (KeepCall bytes) e = refl
ended_behind v SyncCall e = refl

-- after a fault nothing comes
pub none_behind : (v : View) (items : List Item) → is_ended v.phase ≡ true → are_allowed v items ≡ true → items ≡ []
none_behind v [] e h = refl
none_behind v (item ∷ items) e h = absurd (no_item v item e (and_parts _ _ h).0)

pub faults_are_last : FaultsAreLast
faults_are_last s items more call e h =
    let v = view_of s items in
    none_behind (after v (Failed call)) more (ended_behind v call e) (and_parts _ _ (behind (start s) items (Failed call ∷ more) h)).1
