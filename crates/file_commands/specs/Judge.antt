-- Judge: the answer to the command, and why it ends as it does.
use Rattle.std.specs.Prelude.{◌≡◌, ℕ, Bool, true, false, Result, Ok, Err, codes, IsTrue}
use Rattle.definitions.specs.World.{Game}
use Rattle.definitions.specs.Exhibits.{shows}
use Rattle.run_frame.specs.Frame.{Answer, bare_answer}
use Rattle.run_frame.specs.declared.statuses.Status.{Status}
use Rattle.run_frame.specs.declared.statuses.Status.TheVariants.{Caught, Done, NoMemory, OutputFault}
use Rattle.evidence.specs.declared.exhibit.Exhibit.{Exhibit}

-- the frames of the exhibit show in this session what it says
abbrev pub is_shown : Game → Exhibit → Bool
is_shown game x = shows game x.player x.turn x.kind x.frames

-- what is written of a verdict, and how the run ends with it
abbrev pub verdict_answer : Bool → Answer
verdict_answer true = record { body = codes "yes\n"; status = Caught }
verdict_answer false = record { body = codes "no\n"; status = Done }

-- the answer to the command: the verdict, where there are a session and an exhibit
abbrev pub judge_answer : Result (Game × Exhibit) Status → Answer
judge_answer (Err status) = bare_answer status
judge_answer (Ok (game, x)) = verdict_answer (is_shown game x)

-- Why a run that has a session and an exhibit may end so: by the verdict. Want of memory and faults have their causes outside.
abbrev pub JudgeCause : Game → Exhibit → Status → Type 0
JudgeCause game x Caught = IsTrue (is_shown game x)
JudgeCause game x Done = is_shown game x ≡ false
JudgeCause game x NoMemory = Unit {0}
JudgeCause game x OutputFault = Unit {0}
JudgeCause game x status = ⊥
