-- Exhibits: the exhibit that a file has, or how the run ends where there is none; and a session with it.
use Rattle.std.specs.Prelude.{◌≡◌, ℕ, List, [], take, Result, Ok, Err, Option, unwrap_or}
use Rattle.definitions.specs.World.{Game}
use Rattle.definitions.specs.declared.limits.TheConstants.{EVIDENCE_FRONT}
use Rattle.run_frame.specs.declared.statuses.Status.{Status}
use Rattle.run_frame.specs.declared.statuses.Status.TheVariants.{NoMemory, InputFault, BadLine, BadSession}
use Rattle.run_frame.specs.declared.statuses.TextName.TheVariants.{Evidence}
use Rattle.text_fields.specs.declared.fault.TextFault.{TextFault}
use Rattle.evidence.specs.declared.exhibit.Exhibit.{Exhibit}
use Rattle.evidence.specs.Reading.{exhibit_at}
use Rattle.run_frame.specs.Faults.{read_by}
use Rattle.run_frame.specs.Sessions.{session_in}

-- the bytes of an exhibit's file that are read
unfoldable pub evidence_front_of : Option (List ℕ) → List ℕ
evidence_front_of content = take EVIDENCE_FRONT (unwrap_or content [])

-- the exhibit that is read, or how the run ends where none is
abbrev pub exhibit_by : Result Exhibit TextFault → Result Exhibit Status
exhibit_by r = read_by Evidence r

-- the exhibit of a file
abbrev pub exhibit_in : Option (List ℕ) → Result Exhibit Status
exhibit_in content = exhibit_by (exhibit_at (evidence_front_of content))

-- the exhibit, where there is a session
abbrev pub with_exhibit : Result Game Status → Result Exhibit Status → Result (Game × Exhibit) Status
with_exhibit (Err status) exhibit = Err status
with_exhibit (Ok game) (Err status) = Err status
with_exhibit (Ok game) (Ok x) = Ok (game, x)

-- a session and an exhibit, by their two files
abbrev pub case_for : (session evidence : Option (List ℕ)) → Result (Game × Exhibit) Status
case_for session evidence = with_exhibit (session_in session) (exhibit_in evidence)

-- What is read is what is due, unless memory was wanting or the shelf failed.
abbrev pub IsExhibitDue : Result Exhibit Status → Result Exhibit Status → Type 0
IsExhibitDue due (Ok x) = due ≡ Ok x
IsExhibitDue due (Err NoMemory) = Unit {0}
IsExhibitDue due (Err InputFault) = Unit {0}
IsExhibitDue due (Err (BadLine Evidence line)) = due ≡ Err (BadLine Evidence line)
IsExhibitDue due (Err status) = ⊥

-- A session and an exhibit that are read are what is due, unless memory was wanting or the shelf failed.
abbrev pub IsCaseDue : Result (Game × Exhibit) Status → Result (Game × Exhibit) Status → Type 0
IsCaseDue due (Ok case) = due ≡ Ok case
IsCaseDue due (Err NoMemory) = Unit {0}
IsCaseDue due (Err InputFault) = Unit {0}
IsCaseDue due (Err (BadSession line what)) = due ≡ Err (BadSession line what)
IsCaseDue due (Err (BadLine Evidence line)) = due ≡ Err (BadLine Evidence line)
IsCaseDue due (Err status) = ⊥
