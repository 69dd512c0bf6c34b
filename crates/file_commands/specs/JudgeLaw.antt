-- JudgeLaw: what is promised of `judge`: the exhibit of a file is judged in the session of another.
use Rattle.std.specs.Prelude.{◌≡◌, List, [], ◌∷◌, Some, Ok, false}
use Rattle.definitions.specs.World.{Game}
use Rattle.line_io.specs.Files.{Contents, content}
use Rattle.run_frame.specs.declared.statuses.Status.{Status}
use Rattle.run_frame.specs.declared.statuses.Status.TheVariants.{BadSession, BadLine}
use Rattle.run_frame.specs.declared.statuses.TextName.TheVariants.{Evidence}
use Rattle.grid_world.specs.declared.fault.SessionFault.TheVariants.{At}
use Rattle.grid_world.specs.Reading.{game_at, session_fault}
use Rattle.text_fields.specs.declared.fault.TextFault.TheVariants as text
use Rattle.evidence.specs.declared.exhibit.Exhibit.{Exhibit}
use Rattle.evidence.specs.Reading.{exhibit_at, exhibit_fault}
use Rattle.file_commands.specs.Judge.{JudgeCause, is_shown, judge_answer}
use Rattle.file_commands.specs.JudgeLaws.{TellsVerdict}
use Rattle.file_commands.specs.JudgeWords.{Judging}
use Rattle.run_frame.specs.Sessions.{HasGame, front_of}
use Rattle.file_commands.specs.CaseFiles.{IsSecondDue}
use Rattle.file_commands.specs.Exhibits.{case_for, evidence_front_of}
use Rattle.run_frame.specs.Law.{Law, law_without_input}

-- The two files have this session and this exhibit.
pub record IsCase (contents : Contents) (case : Game × Exhibit) : Type 0 where
  pub read : game_at (front_of (content contents 0)) ≡ Ok case.0
  pub exhibit : exhibit_at (evidence_front_of (content contents 1)) ≡ Ok case.1

-- The files have a session and an exhibit, of which the status tells the verdict.
pub record IsJudged (contents : Contents) (status : Status) : Type 0 where
  pub case : Game × Exhibit
  pub files : IsCase contents case
  pub cause : JudgeCause case.0 case.1 status

-- why it may end so
abbrev pub judge_cause : Contents → Status → Type 0
judge_cause contents (BadSession line what) = session_fault (front_of (content contents 0)) ≡ Some (At line what)
judge_cause contents (BadLine Evidence line) = HasGame (content contents 0) × (exhibit_fault (evidence_front_of (content contents 1)) ≡ Some (text.At line))
judge_cause contents status = IsJudged contents status

abbrev pub judge_law : Judging → Law
judge_law j = law_without_input (j.session ∷ j.evidence ∷ [])
    (λ before after calls. IsSecondDue calls)
    (λ contents. judge_answer (case_for (content contents 0) (content contents 1)))
    judge_cause
    (λ contents. (case : Game × Exhibit) × IsCase contents case × (is_shown case.0 case.1 ≡ false))
    (λ contents. (case : Game × Exhibit) → IsCase contents case → TellsVerdict case.0 case.1 (judge_answer (case_for (content contents 0) (content contents 1))).body)
