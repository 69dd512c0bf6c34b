-- Accuse: what is written of files of sealed frames, by the session, the roots and the files alone.
use Rattle.std.specs.Prelude.{ℕ, List, [], ◌++◌, length, Result, Ok, Err, flat_map, nat_lt, if◌then◌else◌}
use Rattle.definitions.specs.declared.findings.Finding.{Finding}
use Rattle.definitions.specs.World.{Game}
use Rattle.definitions.specs.Findings.{findings}
use Rattle.report_lines.specs.Lines.{end_line_text}
use Rattle.run_frame.specs.Frame.{Answer, bare_answer}
use Rattle.run_frame.specs.declared.statuses.Status.{Status}
use Rattle.sealed_evidence.specs.declared.sealed.SealedExhibit.{SealedExhibit}
use Rattle.sealed_text.specs.declared.limits.TheConstants.{MOST_SEALED_FRAMES}
use Rattle.sealed_text.specs.Text.{sealed_text}
use Rattle.file_commands.specs.Audit.{status_by}
use Rattle.file_commands.specs.AuditLines.{finding_line}
use Rattle.accuser.specs.Accused.{Accuses, logs_of, sealed_of}
use Rattle.accuser.specs.SealedReports.{SealedReported}
use Rattle.accuse_command.specs.Opened.{Accusation}

-- the findings that the frames of the files show together
abbrev pub found_by : Game → List (List ℕ) → List (List ℕ) → List Finding
found_by game roots files = findings game (logs_of game roots files)

-- the text of the exhibit, and none where it has more frames than a text may say
abbrev pub text_if_few : SealedExhibit → List ℕ
text_if_few x = if nat_lt MOST_SEALED_FRAMES (length x.exhibit.frames) then [] else sealed_text x

-- what is written of a finding: its line, and right after it the text of its exhibit with seals
unfoldable pub accused_text : Game → List (List ℕ) → List (List ℕ) → Finding → List ℕ
accused_text game roots files f = finding_line f ++ text_if_few (sealed_of game roots files f)

-- the same of these findings, one after the other
unfoldable pub all_accused_text : Game → List (List ℕ) → List (List ℕ) → List Finding → List ℕ
all_accused_text game roots files fs = flat_map (accused_text game roots files) fs

-- what is written of the files: each finding with its evidence, and the end
unfoldable pub accuse_text : Game → List (List ℕ) → List (List ℕ) → List ℕ
accuse_text game roots files = all_accused_text game roots files (found_by game roots files) ++ end_line_text

-- the answer where the files are all sealed frames
abbrev pub accused_answer : Game → List (List ℕ) → List (List ℕ) → Answer
accused_answer game roots files = record {
  body = accuse_text game roots files;
  status = status_by (found_by game roots files);
}

-- the answer to the command
abbrev pub accuse_answer : Result Accusation Status → Answer
accuse_answer (Err status) = bare_answer status
accuse_answer (Ok a) = accused_answer a.game a.roots a.files

-- The report accuses by some files.
pub record IsOnFiles (r : SealedReported) : Type 0 where
  pub game : Game
  pub roots : List (List ℕ)
  pub files : List (List ℕ)
  pub accuses : Accuses game roots files r
