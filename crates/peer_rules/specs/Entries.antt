-- Entries: which entry the bytes spell that a loop keeps, and which one it is to be.
use Rattle.std.specs.Prelude.{ℕ, ◌-◌, Bool, false, List, [], ◌∷◌, drop, take, Option, Some, None, length}
use Rattle.definitions.specs.declared.frames.TurnFrame.{TurnFrame}
use Rattle.definitions.specs.declared.logs.Entry.{Entry}
use Rattle.definitions.specs.declared.logs.Entry.TheVariants.{Got}
use Rattle.definitions.specs.Logs.{entry_eq}
use Rattle.session_log.specs.Entries.{entry_of}
use Rattle.session_log.specs.Writing.{Writing, mark_of}
use Rattle.peer_rules.specs.declared.arrivals.Arrival.{Arrival}

-- the entry that bytes spell in front of the digest that chains it
abbrev pub entry_in : Writing → List ℕ → Option Entry
entry_in w bytes = entry_of (take (length bytes - length (mark_of w) - 32) (drop (length (mark_of w)) bytes))

-- the entry, if there is one, is this one
abbrev pub is_entry : Option Entry → Entry → Bool
is_entry None e = false
is_entry (Some d) e = entry_eq d e

-- the first of the frames that wait is this one
abbrev pub is_first : List Arrival → (q : ℕ) → TurnFrame → Bool
is_first [] q f = false
is_first (a ∷ more) q f = entry_eq (Got a.player a.frame) (Got q f)
