-- Matches: what the lines of a schedule come to as a match: who is hostile, which steps are taken, the first line that is in no grammar, and
-- the logs of all honest players behind the lines.
use Rattle.std.specs.Prelude.{◌≡◌, ℕ, ◌+◌, List, [], ◌∷◌, ◌++◌, Option, Some, None, map, if◌then◌else◌}
use Rattle.definitions.specs.World.{Game}
use Rattle.definitions.specs.Steps.{Logs}
use Rattle.run_frame.specs.Frame.{Answer}
use Rattle.schedule.specs.declared.steps.Step.{Step}
use Rattle.schedule.specs.declared.stands.Stand.{Stand}
use Rattle.schedule.specs.Stands.{stand}
use Rattle.schedule.specs.Steps.{logs_after, meant}
use Rattle.schedule_command.specs.declared.grammar.ScheduleLine.{ScheduleLine}
use Rattle.schedule_command.specs.declared.grammar.ScheduleLine.TheVariants as says
use Rattle.schedule_command.specs.declared.opening.Naming.{Naming}
use Rattle.schedule_command.specs.declared.opening.Naming.TheVariants.{Passed, Names, Unknown}
use Rattle.schedule_command.specs.Grammar.{is_bad}
use Rattle.schedule_command.specs.Schedule.{end_text, naming_behind, said_behind}

-- the players that a line names, or those of the lines behind it where it is passed over
abbrev pub named_or : Naming → (rest : ℕ) → ℕ
named_or Passed rest = rest
named_or (Names hostile) rest = hostile
named_or Unknown rest = 0

-- the hostile players of the match, by a bit for each, where these lines come behind n lines that were passed over
abbrev pub hostile_from : Game → (n : ℕ) → List (List ℕ) → ℕ
hostile_from game n [] = 0
hostile_from game n (line ∷ lines) = named_or (naming_behind game n line) (hostile_from game (n + 1) lines)

-- one of three, by what a line says up to the one that names the hostile players
abbrev pub by_naming : {A : Type 0} → Naming → (passed named unknown : A) → A
by_naming Passed passed named unknown = passed
by_naming (Names hostile) passed named unknown = named
by_naming Unknown passed named unknown = unknown

-- the step that a line says, if it says one
abbrev pub step_in : ScheduleLine → List Step
step_in says.Nothing = []
step_in (says.Step step) = step ∷ []
step_in (says.Tally p) = []
step_in says.Bad = []

-- the steps of these lines, which come behind n lines and name no hostile players, up to the first line that is in no grammar
abbrev pub steps_from : Game → (n : ℕ) → List (List ℕ) → List Step
steps_from game n [] = []
steps_from game n (line ∷ lines) = if is_bad (said_behind game n line) then [] else step_in (said_behind game n line) ++ steps_from game (n + 1) lines

-- the number of the first of them that is in no grammar
abbrev pub bad_from : Game → (n : ℕ) → List (List ℕ) → Option ℕ
bad_from game n [] = None
bad_from game n (line ∷ lines) = if is_bad (said_behind game n line) then Some (n + 1) else bad_from game (n + 1) lines

-- the same where n lines were passed over before: the hostile players are named first, and where no line names them, the one behind the last
-- is the bad one
abbrev pub named_steps_from : Game → (n : ℕ) → List (List ℕ) → List Step
named_steps_from game n [] = []
named_steps_from game n (line ∷ lines) = by_naming (naming_behind game n line) (named_steps_from game (n + 1) lines) (steps_from game (n + 1) lines) []

abbrev pub named_bad_from : Game → (n : ℕ) → List (List ℕ) → Option ℕ
named_bad_from game n [] = Some (n + 1)
named_bad_from game n (line ∷ lines) = by_naming (naming_behind game n line) (named_bad_from game (n + 1) lines) (bad_from game (n + 1) lines) (Some (n + 1))

-- of a whole schedule: the hostile players, the steps, and the number of its first line that is in no grammar, if there is one
abbrev pub hostile_in : Game → List (List ℕ) → ℕ
hostile_in game lines = hostile_from game 0 lines

abbrev pub steps_in : Game → List (List ℕ) → List Step
steps_in game lines = named_steps_from game 0 lines

abbrev pub bad_line : Game → List (List ℕ) → Option ℕ
bad_line game lines = named_bad_from game 0 lines

-- the logs of the honest players behind all its steps
abbrev pub logs_behind : Game → List (List ℕ) → Logs
logs_behind game lines = logs_after game (hostile_in game lines) (map meant (steps_in game lines))

-- and how the match stands then
abbrev pub stand_behind : Game → List (List ℕ) → Stand
stand_behind game lines = stand game (logs_behind game lines)

-- The text ends with this one.
abbrev pub EndsWith : (text last : List ℕ) → Type 0
EndsWith text last = (front : List ℕ) × (text ≡ front ++ last)
