-- Audit: what is written of the logs of a session, by the session, the owners and the logs alone.
use Rattle.std.specs.Prelude.{◌≡◌, ℕ, Bool, false, List, [], ◌∷◌, ◌++◌, Option, flat_map, is_some, if◌then◌else◌}
use Rattle.definitions.specs.declared.logs.Entry.{Entry}
use Rattle.definitions.specs.declared.findings.Finding.{Finding}
use Rattle.definitions.specs.Lists.{is_empty}
use Rattle.definitions.specs.World.{Game, players_of}
use Rattle.definitions.specs.Findings.{findings}
use Rattle.evidence.specs.declared.exhibit.Exhibit.{Exhibit}
use Rattle.evidence.specs.Showing.{frames_of_finding}
use Rattle.evidence.specs.Text.{exhibit_text}
use Rattle.auditor.specs.declared.world.WorldLine.{WorldLine}
use Rattle.auditor.specs.Agreed.{agreed_count, all_agreed_moves, are_whole, world}
use Rattle.auditor.specs.Reports.{Reported, agreed_by, found_in, world_by}
use Rattle.report_lines.specs.Lines.{end_line_text}
use Rattle.run_frame.specs.Frame.{Answer}
use Rattle.run_frame.specs.declared.statuses.Status.{Status}
use Rattle.run_frame.specs.declared.statuses.Status.TheVariants.{Caught, Done, NoMemory, OutputFault}
use Rattle.file_commands.specs.AuditLines.{agreed_lines, finding_line, no_world_line, world_lines}

-- the exhibit of a finding in the logs
abbrev pub exhibit_of : Game → List (List Entry) → Finding → Exhibit
exhibit_of game logs f = record { player = f.player; turn = f.turn; kind = f.kind; frames = frames_of_finding game logs f }

-- what is written of a finding: its line, and right behind it the text of its exhibit
unfoldable pub found_text : Game → List (List Entry) → Finding → List ℕ
found_text game logs f = finding_line f ++ exhibit_text (exhibit_of game logs f)

-- the same of these findings, one behind the other
unfoldable pub all_found_text : Game → List (List Entry) → List Finding → List ℕ
all_found_text game logs fs = flat_map (found_text game logs) fs

-- where each player stands behind the last turn, or that this isn't told
abbrev pub world_text : Game → Bool → (ℕ → Option WorldLine) → List ℕ
world_text game told line = if told then world_lines line 0 (players_of game) else no_world_line

-- the same, and the end
abbrev pub last_text : Game → Bool → (ℕ → Option WorldLine) → List ℕ
last_text game told line = world_text game told line ++ end_line_text

-- what is written after the findings: how many turns of each player are agreed, where each stands, and the end
unfoldable pub rest_text : Game → (ℕ → ℕ) → Bool → (ℕ → Option WorldLine) → List ℕ
rest_text game count told line = agreed_lines count 0 (players_of game) ++ last_text game told line

-- all turns of all players are agreed
abbrev pub are_all_agreed : Game → List (Option ℕ) → List (List Entry) → Bool
are_all_agreed game owners logs = are_whole game (all_agreed_moves game owners logs)

-- what is written of the logs: each finding with its evidence, and what the logs agree on
unfoldable pub audit_text : Game → List (Option ℕ) → List (List Entry) → List ℕ
audit_text game owners logs =
    all_found_text game logs (findings game logs) ++
    rest_text game (agreed_count game owners logs) (are_all_agreed game owners logs) (world game owners logs)

-- how the command ends, by the findings
abbrev pub status_by : List Finding → Status
status_by [] = Done
status_by (f ∷ fs) = Caught

-- the answer to the command
abbrev pub audit_answer : Game → List (Option ℕ) → List (List Entry) → Answer
audit_answer game owners logs = record { body = audit_text game owners logs; status = status_by (findings game logs) }

-- what is written by a report of the logs
abbrev pub report_text : Game → List (List Entry) → Reported → List ℕ
report_text game logs r = all_found_text game logs (found_in r) ++ rest_text game (agreed_by r) (is_some (world_by r 0)) (world_by r)

-- Why a run that has logs may end so: by the findings. Want of memory and faults have their causes outside.
abbrev pub AuditCause : List Finding → Status → Type 0
AuditCause fs Caught = is_empty fs ≡ false
AuditCause fs Done = fs ≡ []
AuditCause fs NoMemory = Unit {0}
AuditCause fs OutputFault = Unit {0}
AuditCause fs status = ⊥
