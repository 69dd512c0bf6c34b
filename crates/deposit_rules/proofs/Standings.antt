-- Standings: a socket whose number is fresh after an item was fresh before it.
use Rattle.std.proofs.Common.{◌≡◌, ℕ, Bool, true, false}
use Rattle.std.specs.Prelude.{◌==◌, if◌then◌else◌}
use Rattle.socket_station.specs.declared.answers.Standing.{Standing}
use Rattle.socket_station.specs.declared.answers.Standing.TheVariants.{Fresh, Open, Closed}
use Rattle.socket_station.specs.Items.{Item, ListenCall, LogCall, DialCall, PollCall, ReadCall, WriteCall, KeepCall, SyncCall, Listening, LogBegun, Dialled, Polled, Took, Gave, ReadNotYet, WriteNotYet, Ended, Failed, Shut, Kept, Synced}
use Rattle.socket_station.specs.Standings.{opens, standing_after}

open_fresh : (b : Bool) (old : Standing) → (if b then Open else old) ≡ Fresh → old ≡ Fresh
open_fresh true old e = absurd (let x : Open ≡ Fresh = e in cc)
open_fresh false old e = e

closed_fresh : (b : Bool) (old : Standing) → (if b then Closed else old) ≡ Fresh → old ≡ Fresh
closed_fresh true old e = absurd (let x : Closed ≡ Fresh = e in cc)
closed_fresh false old e = e

pub fresh_before : (n : ℕ) (old : Standing) (item : Item) → standing_after n old item ≡ Fresh → old ≡ Fresh
fresh_before n old (Dialled s player addr) e = open_fresh (s == n) old e
fresh_before n old (Polled list) e = open_fresh (opens list n) old e
fresh_before n old (Ended s) e = closed_fresh (s == n) old e
fresh_before n old (Shut s) e = closed_fresh (s == n) old e
fresh_before n old (Failed (ReadCall s)) e = closed_fresh (s == n) old e
fresh_before n old (Failed (WriteCall s)) e = closed_fresh (s == n) old e
fresh_before n old (Failed (ListenCall a)) e = e
fresh_before n old (Failed (LogCall a)) e = e
fresh_before n old (Failed (DialCall a b)) e = e
fresh_before n old (Failed PollCall) e = e
fresh_before n old (Failed (KeepCall a)) e = e
fresh_before n old (Failed SyncCall) e = e
fresh_before n old (Listening a) e = e
fresh_before n old (LogBegun a) e = e
fresh_before n old (Took a b) e = e
fresh_before n old (Gave a b) e = e
fresh_before n old (ReadNotYet a) e = e
fresh_before n old (WriteNotYet a) e = e
fresh_before n old (Kept a) e = e
fresh_before n old Synced e = e
