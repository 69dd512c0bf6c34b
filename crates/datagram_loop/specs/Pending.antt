-- Pending: entries that are not kept yet, and the frames that explain them.
use Rattle.std.specs.Prelude.{◌≡◌, ℕ, true, List, [], ◌∷◌, ◌++◌, drop}
use Rattle.definitions.specs.World.{Game}
use Rattle.definitions.specs.declared.logs.Entry.{Entry}
use Rattle.peer_rules.specs.declared.arrivals.Arrival.{Arrival}
use Rattle.post_rules.specs.Handling.{still_new}
use Rattle.post_rules.specs.Keeping.{may_log, waiting_after}
use Rattle.datagram_loop.specs.States.{LoopState, kept_of}

-- With these frames waiting, each of the entries may be logged after those before it, and then no
-- frame waits that is new.
abbrev pub Explained : Game → (me : ℕ) → List Entry → List Arrival → List Entry → Type 0
Explained game me h waiting [] = still_new game me h waiting ≡ []
Explained game me h waiting (e ∷ es) = (may_log game me h waiting e ≡ true) × Explained game me (h ++ e ∷ []) (waiting_after game me h waiting e) es

-- The entries that are not kept yet are those that the frames which wait bring about, with the own
-- moves between them.
abbrev pub IsPending : LoopState → List Arrival → Type 0
IsPending l waiting = Explained l.peer.game l.peer.me (kept_of l) waiting (drop l.kept l.peer.entries)
