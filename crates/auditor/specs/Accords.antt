-- Accords: the first of some moves, and whether all others are the same.
use Rattle.std.specs.Prelude.{ℕ, Bool, true, nat_eq, List, [], ◌∷◌, Option, None, Some, if◌then◌else◌}
use Rattle.std.specs.List.{list_all}
use Rattle.std.specs.Option.{option_eq}
use Rattle.definitions.specs.declared.world.Move.{Move}
use Rattle.definitions.specs.Logs.{move_eq}
use Rattle.auditor.specs.declared.agreed.Accord.{Accord}

-- of these moves
abbrev pub accord_of : List Move → Accord
accord_of [] = record { first = None; same = true }
accord_of (m ∷ ms) = record { first = Some m; same = list_all (move_eq m) ms }

-- the one move
abbrev pub agreed_in : Accord → Option Move
agreed_in a = if a.same then a.first else None

-- the move is the same as the first one, or there is no first one
abbrev pub is_alike : Option Move → Move → Bool
is_alike None m = true
is_alike (Some f) m = move_eq f m

-- the log with this owner is the player's own
abbrev pub is_own : Option ℕ → ℕ → Bool
is_own o q = option_eq nat_eq o (Some q)

-- the move, where both are the same or one of them is there alone
abbrev pub joined_with : Move → Option Move → Option Move
joined_with m None = Some m
joined_with m (Some k) = if move_eq m k then Some m else None

abbrev pub joined : Option Move → Option Move → Option Move
joined None o = o
joined (Some m) o = joined_with m o
