-- Advance: the frames that the owner of a log makes by itself.
use Rattle.std.specs.Prelude.{ℕ, zero, suc, ◌-◌, ◌*◌, Bool, true, false, List, [], ◌∷◌, ◌++◌, Option, Some, None, if◌then◌else◌}
use Rattle.definitions.specs.declared.openings.Opening.{Opening}
use Rattle.definitions.specs.declared.frames.TurnFrame.{TurnFrame}
use Rattle.definitions.specs.declared.frames.TurnFrame.TheVariants as F
use Rattle.definitions.specs.declared.logs.Entry.{Entry}
use Rattle.definitions.specs.declared.logs.Entry.TheVariants.{Made}
use Rattle.definitions.specs.declared.frames.What.{What}
use Rattle.definitions.specs.declared.frames.What.TheVariants.{Commit, Reveal}
use Rattle.definitions.specs.declared.findings.Finding.{Finding}
use Rattle.definitions.specs.declared.answers.Progress.{Progress}
use Rattle.definitions.specs.declared.answers.Progress.TheVariants as P
use Rattle.definitions.specs.Lists.{is_empty}
use Rattle.definitions.specs.World.{Game}
use Rattle.definitions.specs.Openings.{commitment}
use Rattle.definitions.specs.declared.places.Slot.{Slot}
use Rattle.definitions.specs.Places.{slot_at}
use Rattle.definitions.specs.Findings.{findings}
use Rattle.definitions.specs.Honest.{made_count, chosen_for, allowed}
use Rattle.definitions.specs.Needs.{needs, may_choose}

-- the frame of an opening: its commitment or its reveal
abbrev pub frame_of : Game → What → Opening → TurnFrame
frame_of game Commit o = F.Commit o.player o.turn (commitment game.id o)
frame_of game Reveal o = F.Reveal o.player o.turn o.mv o.nonce

-- the frame of what was chosen
abbrev pub frame_chosen : Game → What → Option Opening → Option TurnFrame
frame_chosen game what None = None
frame_chosen game what (Some o) = Some (frame_of game what o)

-- the frame of this slot, by what the owner chose for its turn
abbrev pub frame_at : Game → ℕ → List Entry → Option Slot → Option TurnFrame
frame_at game me h None = None
frame_at game me h (Some s) = frame_chosen game s.what (chosen_for me h s.turn)

-- the frame, where it may be made
abbrev pub if_allowed : Game → ℕ → List Entry → Option TurnFrame → Option TurnFrame
if_allowed game me h None = None
if_allowed game me h (Some f) = if allowed game me h (Made f) then Some f else None

-- the frame that the owner makes next, where one is allowed
unfoldable pub next_made : Game → ℕ → List Entry → Option TurnFrame
next_made game me h = if_allowed game me h (frame_at game me h (slot_at game (made_count h)))

-- the log with the frame made
abbrev pub with_made : List Entry → Option TurnFrame → List Entry
with_made h None = h
with_made h (Some f) = h ++ Made f ∷ []

-- with at most n more made frames
unfoldable pub advance_by : Game → ℕ → ℕ → List Entry → List Entry
advance_by game me zero h = h
advance_by game me (suc n) h = advance_by game me n (with_made h (next_made game me h))

-- with the made frames that are allowed, until none is
unfoldable pub advance : Game → ℕ → List Entry → List Entry
advance game me h = advance_by game me (2 * game.turns) h

-- how many frames the owner makes by itself
abbrev pub advances_by : Game → ℕ → List Entry → ℕ
advances_by game me h = made_count (advance game me h) - made_count h

-- how a log stands in which no frame is left to be made: its owner may choose, or waits, or is done
abbrev pub standing : (chooses waits_for_none : Bool) → Progress
standing true none = P.Choose
standing false true = P.Done
standing false false = P.Waits

-- how far the owner comes: the first finding, if there is one; else the number of frames made, if any; else how it stands
abbrev pub progress_of : List Finding → ℕ → Progress → Progress
progress_of (f ∷ fs) n stands = P.Caught f
progress_of [] zero stands = stands
progress_of [] (suc n) stands = P.Made (suc n)

-- how far the owner of the log comes by itself
unfoldable pub progress : Game → ℕ → List Entry → Progress
progress game me h =
    progress_of (findings game (h ∷ [])) (advances_by game me h) (standing (may_choose game me h) (is_empty (needs game me h)))
