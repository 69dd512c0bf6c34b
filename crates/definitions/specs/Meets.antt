-- Meetings: whose sphere of influence, dilated by what is not known of it, meets one's own.
use Rattle.std.specs.Prelude.{ℕ, ◌-◌, Bool, ◌&&◌, List, [], ◌∷◌, take, nat_le}
use Rattle.definitions.specs.declared.world.Cell.{Cell}
use Rattle.definitions.specs.declared.logs.Entry.{Entry}
use Rattle.definitions.specs.World.{Game}
use Rattle.definitions.specs.Walk.{reach_of}
use Rattle.definitions.specs.Sphere.{sphere_of, have_common}
use Rattle.definitions.specs.Moves.{track_after}
use Rattle.definitions.specs.Held.{known, resolved_count}

-- the player's cell before the turn, by its resolved moves
abbrev pub cell_before : Game → ℕ → List Entry → ℕ → ℕ → Cell
cell_before game me h q t = (track_after game q (take t (known game me h q).moves)).at

-- the cells at which the player can be before the turn, by what is resolved of it
abbrev pub cells_before : Game → ℕ → List Entry → ℕ → ℕ → List Cell
cells_before game me h q t =
    reach_of game q (t - resolved_count game me h q) ((track_after game q (known game me h q).moves).at ∷ [])

-- player q, whose turn is not resolved, could interact in it with the log's owner
unfoldable pub meets : Game → ℕ → List Entry → ℕ → ℕ → Bool
meets game me h q t =
    nat_le (resolved_count game me h q) t &&
    have_common (sphere_of game me (cell_before game me h me t ∷ [])) (sphere_of game q (cells_before game me h q t))
