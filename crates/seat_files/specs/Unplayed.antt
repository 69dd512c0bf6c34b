-- Unplayed: what is told where nothing is played, and why a run may end so.
use Rattle.std.specs.Prelude.{◌≡◌, ℕ, true, List, Result, Ok, Err, length}
use Rattle.definitions.specs.declared.world.Move.{Move}
use Rattle.definitions.specs.declared.logs.Entry.{Entry}
use Rattle.definitions.specs.World.{Game}
use Rattle.definitions.specs.Moves.{is_legal}
use Rattle.definitions.specs.Logs.{chosen}
use Rattle.definitions.specs.Honest.{chosen_track}
use Rattle.definitions.specs.Needs.{may_choose}
use Rattle.station.specs.Sinks.{SinkState}
use Rattle.pilots.specs.Scripts.{scripted}
use Rattle.run_frame.specs.Frame.{Answer, bare_answer}
use Rattle.run_frame.specs.Opening.{Found}
use Rattle.run_frame.specs.declared.statuses.Status.{Status}
use Rattle.run_frame.specs.declared.statuses.Status.TheVariants.{NoMemory, Usage, BadSession, BadLine, BadLog}
use Rattle.seat_files.specs.Seats.{Seating}

-- what is told where no call of the station or the post is made: why there is nothing to play by; where there is
-- something, only memory can be wanting
abbrev pub unplayed_answer : Result Seating Status → Answer
unplayed_answer (Err status) = bare_answer status
unplayed_answer (Ok seating) = bare_answer NoMemory

-- Why it may end so: the files are refused by this status, or they give something to play by. How the loop ends by
-- what its station or post answered is part of what is promised of a run that played.
abbrev pub seat_cause : Result Seating Status → Status → Type 0
seat_cause due Usage = due ≡ Err Usage
seat_cause due (BadSession line what) = due ≡ Err (BadSession line what)
seat_cause due (BadLine text line) = due ≡ Err (BadLine text line)
seat_cause due (BadLog log at why) = due ≡ Err (BadLog log at why)
seat_cause due status = Found due

-- Where the player is to choose a move by this log, that of the moves text is legal.
abbrev pub MovesLegally : Game → (player : ℕ) → List Move → List Entry → Type 0
MovesLegally game player moves log =
    may_choose game player log ≡ true →
    is_legal game player (chosen_track game player log) (scripted moves (chosen_track game player log) (length (chosen player log))) ≡ true

-- Memory was wanting, and no call was made and nothing written. What a loop would choose by, and the items that its
-- station or post told, are of these types.
pub record MadeNoCall (C I : Type 0) (by to : C) (items items' : List I) (before now : SinkState) (status : Status) : Type 0 where
  pub lacks : status ≡ NoMemory
  pub calls : items' ≡ items
  pub chooser : to ≡ by
  pub written : now ≡ before
