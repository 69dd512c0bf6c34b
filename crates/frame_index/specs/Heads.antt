-- Heads: what each log shows of a player's stream up to one of its places.
use Rattle.std.specs.Prelude.{◌≡◌, ℕ, ◌+◌, List, Option, Some, None, min, slice_get, IsTrue}
use Rattle.definitions.specs.declared.frames.TurnFrame.{TurnFrame}
use Rattle.definitions.specs.declared.frames.What.{What}
use Rattle.definitions.specs.declared.frames.What.TheVariants.{Commit, Reveal}
use Rattle.definitions.specs.declared.logs.Entry.{Entry}
use Rattle.definitions.specs.declared.places.Slot.{Slot}
use Rattle.definitions.specs.World.{Game, is_open}
use Rattle.definitions.specs.Logs.{got_of}
use Rattle.definitions.specs.Places.{slot_at}
use Rattle.definitions.specs.Held.{known_to, next_known}
use Rattle.grid_world.specs.declared.streams.Stream.{Stream}
use Rattle.grid_world.specs.Streams.{next_of}
use Rattle.frame_index.specs.Streams.{stream_of}

-- the place of the turn's reveal; after the last turn, the first place that no frame has
abbrev pub front_of : Game → ℕ → ℕ
front_of game t = min (t + game.ahead) game.turns + t

-- the turn of the frame that stands at the place
abbrev pub turn_in : Option Slot → ℕ
turn_in None = 0
turn_in (Some s) = s.turn

abbrev pub turn_at : Game → ℕ → ℕ
turn_at game place = turn_in (slot_at game place)

-- the place after this one where it is that of a commitment, and this one where it isn't
abbrev pub past_what : What → ℕ → ℕ
past_what Commit place = place + 1
past_what Reveal place = place

abbrev pub past_slot : Option Slot → ℕ → ℕ
past_slot None place = place
past_slot (Some s) place = past_what s.what place

abbrev pub past_commitment : Game → ℕ → ℕ
past_commitment game place = past_slot (slot_at game place) place

-- the frames show no place past those of the stream
abbrev pub Ends : Game → ℕ → List TurnFrame → Stream → Type 0
Ends game q fs s = next_known game q fs (known_to game q fs (next_of s)) ≡ known_to game q fs (next_of s)

-- the stream is what the frames show of the places before this one
abbrev pub Stands : Game → ℕ → List TurnFrame → ℕ → Stream → Type 0
Stands game q fs place s = s ≡ stream_of game q (known_to game q fs place)

-- so it is with each log
abbrev pub Stand : Game → ℕ → List (List Entry) → ℕ → List Stream → Type 0
Stand game q logs place ss = (i : ℕ) (h : List Entry) (s : Stream) → slice_get logs i ≡ Some h → slice_get ss i ≡ Some s → Stands game q (got_of q h) place s

-- all tracks end on open cells
abbrev pub AreOpen : Game → List Stream → Type 0
AreOpen game ss = (i : ℕ) (s : Stream) → slice_get ss i ≡ Some s → IsTrue (is_open game.grid s.track.at)
