-- Streams: how far a player's stream is known, and what stands at its next place.
use Rattle.std.specs.Prelude.{◌≡◌, ℕ, ◌+◌, Option, Some, None, nat_lt, if◌then◌else◌}
use Rattle.definitions.specs.declared.frames.What.TheVariants.{Commit, Reveal}
use Rattle.definitions.specs.declared.places.Slot.{Slot}
use Rattle.definitions.specs.World.{Game}
use Rattle.definitions.specs.Places.{commits_next}
use Rattle.grid_world.specs.declared.streams.Stream.{Stream}
use Rattle.grid_world.specs.Places.{reveals_below}

-- the next place: as many frames are known
abbrev pub next_of : Stream → ℕ
next_of s = s.commits + s.resolved

-- what stands there: a commitment while one comes next, and otherwise a reveal while turns are left
abbrev pub slot_next : Game → Stream → Option Slot
slot_next game s =
    if commits_next game s.commits s.resolved then Some (record { what = Commit; turn = s.commits })
    else if nat_lt s.resolved game.turns then Some (record { what = Reveal; turn = s.resolved })
    else None

-- The stream is in order: it has as many reveals as stand below its next place, and all else are
-- commitments.
abbrev pub IsInOrder : Game → Stream → Type 0
IsInOrder game s = s.resolved ≡ reveals_below game (next_of s)
