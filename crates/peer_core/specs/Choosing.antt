-- Choosing: what a peer's tables say of its next frame and its next choice.
use Rattle.std.specs.Prelude.{ℕ, Bool, false, ◌&&◌, List, Option, Some, None, Result, Ok, Err, nat_le, slice_get, if◌then◌else◌}
use Rattle.definitions.specs.declared.openings.Opening.{Opening}
use Rattle.definitions.specs.declared.frames.TurnFrame.{TurnFrame}
use Rattle.definitions.specs.declared.frames.What.{What}
use Rattle.definitions.specs.declared.frames.What.TheVariants.{Commit, Reveal}
use Rattle.definitions.specs.declared.places.Slot.{Slot}
use Rattle.definitions.specs.declared.answers.OwnFault.{OwnFault}
use Rattle.definitions.specs.World.{Game}
use Rattle.definitions.specs.Places.{slot_at}
use Rattle.definitions.specs.Advance.{frame_chosen}

-- the frame of the slot, where its turn is chosen
abbrev pub frame_in : Game → List Opening → Option Slot → Option TurnFrame
frame_in game openings None = None
frame_in game openings (Some s) = frame_chosen game s.what (slice_get openings s.turn)

-- the next frame, where the peer is free to go on and its turn is chosen
abbrev pub next_of : Game → Bool → List Opening → ℕ → Option TurnFrame
next_of game free openings made = if free then frame_in game openings (slot_at game made) else None

-- the frame is the commitment of a turn that isn't among the first ones, which are chosen
abbrev pub is_unchosen_of : What → (turn chosen : ℕ) → Bool
is_unchosen_of Commit turn chosen = nat_le chosen turn
is_unchosen_of Reveal turn chosen = false

-- the slot is the commitment of such a turn
abbrev pub is_unchosen_slot : ℕ → Option Slot → Bool
is_unchosen_slot chosen None = false
is_unchosen_slot chosen (Some s) = is_unchosen_of s.what s.turn chosen

-- a move may be chosen: the peer is free to go on, and the next frame is a commitment whose turn isn't chosen
abbrev pub chooses : Game → Bool → (made chosen : ℕ) → Bool
chooses game free made chosen = free && is_unchosen_slot chosen (slot_at game made)

-- the fault, if there is one
abbrev pub fault_of : {T : Type 0} → Result T OwnFault → Option OwnFault
fault_of (Ok x) = None
fault_of (Err e) = Some e
