-- Audited: what is answered of the bytes of whole logs.
use Rattle.std.specs.Prelude.{◌≡◌, ◌<◌, ◌≤◌, ◌+◌, ℕ, List, [], ◌∷◌, ◌++◌, Option, None, Some, Result, Ok, Err, length, map, option_map}
use Rattle.std.specs.Option.{option_or}
use Rattle.definitions.specs.declared.logs.Entry.{Entry}
use Rattle.definitions.specs.World.{Game, players_of}
use Rattle.definitions.specs.Findings.{findings}
use Rattle.session_log.specs.declared.faults.LogFault.{LogFault}
use Rattle.session_log.specs.Laws as L
use Rattle.session_log.specs.Reading.{fault_at}
use Rattle.log_streams.specs.Streams.{entries_in}
use Rattle.auditor.specs.Agreed.{agreed_count, world}
use Rattle.auditor.specs.Audits.{AuditState, StandsFor}
use Rattle.auditor.specs.Reports.{Reported, agreed_by, found_in, world_by}
use Rattle.log_files.specs.Logs.{log_fault}
use Rattle.log_files.specs.Several.{FaultyLog, of_log}
use Rattle.log_files.specs.declared.audits.AuditFault.{AuditFault}
use Rattle.log_files.specs.declared.audits.AuditFault.TheVariants.{BadLog, Memory}

-- the entries of each log
abbrev pub logs_of : Game → List (List ℕ) → List (List Entry)
logs_of game texts = map (λ bytes. entries_in game bytes) texts

-- and whose it is
abbrev pub owners_of : Game → List (List ℕ) → List (Option ℕ)
owners_of game texts = map (λ bytes. L.owner_in game bytes) texts

-- the fault of the first text that is no log, where the first text's log has this number
abbrev pub first_fault : Game → ℕ → List (List ℕ) → Option FaultyLog
first_fault game number [] = None
first_fault game number (bytes ∷ texts) = option_or (option_map (of_log number) (log_fault game bytes)) (first_fault game (number + 1) texts)

-- the fault as it is answered of the log of this number
abbrev pub of_fault : ℕ → LogFault → AuditFault
of_fault log fault = BadLog log fault.at fault.why

-- the answer for the log of this number, where it has this fault or none
abbrev pub ended_by : ℕ → Option LogFault → Result (Unit {0}) AuditFault
ended_by log None = Ok tt
ended_by log (Some fault) = Err (of_fault log fault)

-- the text has this fault, as the log of this number; want of memory has its cause outside
abbrev pub IsFaultOf : Game → ℕ → List ℕ → AuditFault → Type 0
IsFaultOf game number bytes (BadLog log at why) = (log ≡ number) × (log_fault game bytes ≡ Some (fault_at at why))
IsFaultOf game number bytes Memory = Unit {0}

-- this is the first fault of the texts
abbrev pub IsFirstFault : Game → ℕ → List (List ℕ) → AuditFault → Type 0
IsFirstFault game number texts (BadLog log at why) = first_fault game number texts ≡ Some (of_log log (fault_at at why))
IsFirstFault game number texts Memory = Unit {0}

-- all texts are logs, and an auditor that stood for as many logs as the number says stands for them with these behind them
pub record AreTaken (game : Game) (a a' : AuditState) (number : ℕ) (texts : List (List ℕ)) : Type 0 where
  pub sound : first_fault game number texts ≡ None
  pub stands : (owners : List (Option ℕ)) (logs : List (List Entry)) → length logs ≡ number → StandsFor game owners logs a →
      StandsFor game (owners ++ owners_of game texts) (logs ++ logs_of game texts) a'

-- all texts are logs, and the report tells what they show, and nothing of players that the session lacks
pub record Audits (game : Game) (texts : List (List ℕ)) (r : Reported) : Type 0 where
  pub sound : first_fault game 0 texts ≡ None
  pub found : found_in r ≡ findings game (logs_of game texts)
  pub agreed : (q : ℕ) → q < players_of game → agreed_by r q ≡ agreed_count game (owners_of game texts) (logs_of game texts) q
  pub world : (q : ℕ) → q < players_of game → world_by r q ≡ world game (owners_of game texts) (logs_of game texts) q
  pub beyond : (q : ℕ) → players_of game ≤ q → (agreed_by r q ≡ 0) × (world_by r q ≡ None)
