-- Grammar: what a line of a schedule says, behind the one that names the hostile players.
use Rattle.std.specs.Prelude.{ℕ, ◌-◌, ◌^◌, ◌<◌, Bool, true, false, List, [], ◌∷◌, Option, Some, None, ◌==◌, codes, if◌then◌else◌}
use Rattle.definitions.specs.World.{Game, players_of}
use Rattle.byte_fields.specs.Fronts.{◌>>=◌, behind}
use Rattle.text_fields.specs.Numbers.{number_of, number_then}
use Rattle.text_fields.specs.Choices.{move_then_nonce}
use Rattle.text_fields.specs.Hexes.{frame_of}
use Rattle.schedule.specs.declared.steps.Step.{Step}
use Rattle.schedule.specs.declared.steps.Step.TheVariants.{Choose, Deliver, Hostile, Stop}
use Rattle.schedule.specs.Steps.{HasPlayers}
use Rattle.schedule_command.specs.declared.grammar.ScheduleLine.{ScheduleLine}
use Rattle.schedule_command.specs.declared.grammar.ScheduleLine.TheVariants as says

-- the last player of the session
abbrev pub last_player : Game → ℕ
last_player game = players_of game - 1

-- `P X Y NONCE` or `P X Y SX SY NONCE`, with players up to the last one
unfoldable pub choice_of : (last : ℕ) → List ℕ → Option Step
choice_of last text = do
  player ← number_then last text
  choice ← move_then_nonce player.1
  Some (Choose player.0 choice.0 choice.1)

-- `P Q K`
unfoldable pub delivery_of : (last : ℕ) → List ℕ → Option Step
delivery_of last text = do
  from ← number_then last text
  to ← number_then last from.1
  place ← number_of (2 ^ 32 - 1) to.1
  Some (Deliver from.0 to.0 place)

-- `Q P FRAME`
unfoldable pub frame_in : (last : ℕ) → List ℕ → Option Step
frame_in last text = do
  from ← number_then last text
  to ← number_then last from.1
  frame ← frame_of to.1
  Some (Hostile from.0 to.0 frame)

-- `P N`
unfoldable pub stop_of : (last : ℕ) → List ℕ → Option Step
stop_of last text = do
  player ← number_then last text
  keep ← number_of (2 ^ 32 - 1) player.1
  Some (Stop player.0 keep)

-- the reading of what stands behind a word, or another where the word isn't there
abbrev pub by_word : Option (List ℕ) → (List ℕ → Option Step) → Option Step → Option Step
by_word None read other = other
by_word (Some text) read other = read text

-- the step that the line says: `choose`, `deliver`, `frame` or `stop`, and what belongs to it
unfoldable pub step_of : Game → List ℕ → Option Step
step_of game line =
    by_word (behind (codes "choose ") line) (choice_of (last_player game))
    (by_word (behind (codes "deliver ") line) (delivery_of (last_player game))
    (by_word (behind (codes "frame ") line) (frame_in (last_player game))
    (behind (codes "stop ") line >>= stop_of (last_player game))))

-- the player of `tally P`
unfoldable pub tally_of : Game → List ℕ → Option ℕ
tally_of game line = behind (codes "tally ") line >>= number_of (last_player game)

-- a tally, or nothing of the grammar
abbrev pub tally_or_bad : Option ℕ → ScheduleLine
tally_or_bad None = says.Bad
tally_or_bad (Some p) = says.Tally p

-- a step, or something else
abbrev pub step_or : Option Step → ScheduleLine → ScheduleLine
step_or None other = other
step_or (Some step) other = says.Step step

-- what a line says that is neither empty nor a comment
unfoldable pub request_of : Game → List ℕ → ScheduleLine
request_of game line = step_or (step_of game line) (tally_or_bad (tally_of game line))

-- the line is empty, or a comment
abbrev pub is_passed_over : List ℕ → Bool
is_passed_over [] = true
is_passed_over (b ∷ line) = b == 35

-- what a line says
unfoldable pub line_of : Game → List ℕ → ScheduleLine
line_of game line = if is_passed_over line then says.Nothing else request_of game line

-- all players that the line names are the session's
abbrev pub IsOfPlayers : Game → ScheduleLine → Type 0
IsOfPlayers game says.Nothing = Unit {0}
IsOfPlayers game (says.Step step) = HasPlayers game step
IsOfPlayers game (says.Tally p) = p < players_of game
IsOfPlayers game says.Bad = Unit {0}

-- the line is in no grammar
abbrev pub is_bad : ScheduleLine → Bool
is_bad says.Nothing = false
is_bad (says.Step step) = false
is_bad (says.Tally p) = false
is_bad says.Bad = true
