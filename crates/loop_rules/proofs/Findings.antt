-- Findings: while the loop listens, only a sync may come where the log has a finding.
use Rattle.std.proofs.Common.{◌≡◌, ℕ, Bool, true, false, sym, ap, ◌∙◌, List, ◌∷◌}
use Rattle.std.specs.Prelude.{Option, Some, None}
use Rattle.std.proofs.lemmas.Bool.{and_parts, false≢true}
use Rattle.definitions.specs.Findings.{is_clean}
use Rattle.definitions.specs.declared.logs.Entry.{Entry}
use Rattle.socket_station.specs.declared.answers.Addr.{Addr}
use Rattle.socket_station.specs.Items.{Item, ListenCall, LogCall, DialCall, PollCall, ReadCall, WriteCall, KeepCall, SyncCall, Listening, LogBegun, Dialled, Polled, Took, Gave, ReadNotYet, WriteNotYet, Ended, Failed, Shut, Kept, Synced}
use Rattle.socket_lines.specs.declared.line.Line.{Line}
use Rattle.socket_lines.specs.declared.seat.Seat.{Seat}
use Rattle.peer_rules.specs.declared.phases.Phase.{Phase}
use Rattle.peer_rules.specs.declared.phases.Phase.TheVariants.{Running}
use Rattle.loop_rules.specs.Tables.{asks_shut, line_of, seat_of}
use Rattle.loop_rules.specs.Views.{View, start}
use Rattle.loop_rules.specs.Keeping.{may_keep_in, may_keep_as}
use Rattle.peer_rules.specs.Entries.{entry_in}
use Rattle.loop_rules.specs.After.{view_of}
use Rattle.loop_rules.specs.Licence.{is_licensed}
use Rattle.loop_rules.specs.Rules.{may_dial_at, may_write_line, may_listen, is_allowed, wants_read}
use Rattle.peer_rules.specs.Phases.{is_fresh, is_logged}
use Rattle.loop_rules.specs.Laws.{IsSync, FindingsAreLast}
use Rattle.loop_rules.proofs.Prefixes.{behind}
use Rattle.loop_rules.proofs.Serving.{serves, serving_where}

-- the log of the view has a finding
abbrev HasFinding : View → Type 0
HasFinding v = is_clean v.setting.game v.kept ≡ false

never : (v : View) → HasFinding v → is_clean v.setting.game v.kept ≡ true → ⊥
never v f c = false≢true (sym f ∙ c)

no_dial : (v : View) (addr : Addr) (o : Option Seat) → HasFinding v → may_dial_at v addr o ≡ true → ⊥
no_dial v addr None f h = false≢true h
no_dial v addr (Some c) f h = never v f (and_parts _ _ (and_parts _ _ (and_parts _ _ h).0).0).1

no_line : (asks : Line → Bool) (v : View) (o : Option Line) → HasFinding v → serves asks v o ≡ true → ⊥
no_line asks v o f h = never v f (and_parts _ _ (serving_where asks v o h)).1

no_write : (v : View) (o : Option Line) → HasFinding v → may_write_line v o ≡ true → ⊥
no_write v None f h = false≢true h
no_write v (Some l) f h = never v f (and_parts _ _ (and_parts _ _ (and_parts _ _ (and_parts _ _ (and_parts _ _ h).0).0).0).0).1

no_poll : (v : View) → HasFinding v → is_licensed v ≡ true → ⊥
no_poll v f h = never v f (and_parts _ _ (and_parts _ _ (and_parts _ _ h).1).0).1

keeps_clean : (v : View) (p : Phase) (e : Entry) → p ≡ Running → may_keep_in p v e ≡ true → is_clean v.setting.game v.kept ≡ true
keeps_clean v p e is h =
    let logged = ap (λ (x : Phase). may_keep_in x v e) (sym is) ∙ h in
    (and_parts _ _ (and_parts _ _ logged).0).0

no_keep : (v : View) (bytes : List ℕ) (o : Option Entry) → v.phase ≡ Running → HasFinding v → may_keep_as v bytes o ≡ true → ⊥
no_keep v bytes None is f h = false≢true h
no_keep v bytes (Some e) is f h = never v f (keeps_clean v v.phase e is (and_parts _ _ h).1)

no_begin : (v : View) → v.phase ≡ Running → is_fresh v.phase ≡ true → ⊥
no_begin v is h = false≢true (ap is_fresh (sym is) ∙ h)

no_listen : (v : View) (addr : Addr) → v.phase ≡ Running → may_listen v addr ≡ true → ⊥
no_listen v addr is h = false≢true (ap is_logged (sym is) ∙ (and_parts _ _ (and_parts _ _ (and_parts _ _ h).0).0).0)

-- what may come is a sync
sync_alone : (v : View) (item : Item) → v.phase ≡ Running → HasFinding v → is_allowed v item ≡ true → IsSync item
sync_alone v (LogBegun name) is f h = no_begin v is h
sync_alone v (Listening addr) is f h = no_listen v addr is h
sync_alone v (Dialled s q addr) is f h = no_dial v addr (seat_of v.table q) f h
sync_alone v (Polled list) is f h = no_poll v f h
sync_alone v (Took s bytes) is f h = no_line (wants_read v.table) v (line_of v.table s) f (and_parts _ _ (and_parts _ _ h).0).0
sync_alone v (Gave s bytes) is f h = no_write v (line_of v.table s) f (and_parts _ _ h).0
sync_alone v (ReadNotYet s) is f h = no_line (wants_read v.table) v (line_of v.table s) f h
sync_alone v (WriteNotYet s) is f h = no_write v (line_of v.table s) f h
sync_alone v (Ended s) is f h = no_line (wants_read v.table) v (line_of v.table s) f h
sync_alone v (Shut s) is f h = no_line (asks_shut v.table) v (line_of v.table s) f h
sync_alone v (Kept bytes) is f h = no_keep v bytes (entry_in v.writer bytes) is f h
sync_alone v Synced is f h = tt
sync_alone v (Failed (ListenCall addr)) is f h = no_listen v addr is h
sync_alone v (Failed (LogCall name)) is f h = no_begin v is h
sync_alone v (Failed (DialCall q addr)) is f h = no_dial v addr (seat_of v.table q) f h
sync_alone v (Failed PollCall) is f h = no_poll v f h
sync_alone v (Failed (ReadCall s)) is f h = no_line (wants_read v.table) v (line_of v.table s) f h
sync_alone v (Failed (WriteCall s)) is f h = no_write v (line_of v.table s) f h
sync_alone v (Failed (KeepCall bytes)) is f h = no_keep v bytes (entry_in v.writer bytes) is f h
sync_alone v (Failed SyncCall) is f h = tt

pub findings_are_last : FindingsAreLast
findings_are_last s items more item is f h =
    sync_alone (view_of s items) item is f (and_parts _ _ (behind (start s) items (item ∷ more) h)).0
