-- Audits: what the logs of a match show together.
use Rattle.std.specs.Prelude.{◌≡◌, ℕ, ◌<◌, ◌≤◌, ◌+◌, List, [], Option, None, Some, filter_map, length, map, unwrap_or, if◌then◌else◌}
use Rattle.std.specs.List.{range_with_len}
use Rattle.definitions.specs.declared.logs.Entry.{Entry}
use Rattle.definitions.specs.World.{Game, players_of}
use Rattle.definitions.specs.Steps.{Logs, has_log, log_of}
use Rattle.definitions.specs.Findings.{findings}
use Rattle.auditor.specs.declared.world.WorldLine.{WorldLine}
use Rattle.auditor.specs.Agreed.{world}
use Rattle.auditor.specs.Audits.{AuditState, StandsFor, count_in, owner_in}
use Rattle.auditor.specs.Taking.{LeavesOthers, Takes}
use Rattle.auditor.specs.Reports.{Reported, found_in, world_by}

-- whose log it is: the player's, if it is honest
abbrev pub owner_by : Logs → (q : ℕ) → Option ℕ
owner_by logs q = if has_log logs q then Some q else None

-- the player's log, and no entries of a hostile one
abbrev pub entries_by : Logs → (q : ℕ) → List Entry
entries_by logs q = unwrap_or (log_of logs q) []

-- the same of the first so many players
abbrev pub owners_of : Logs → (many : ℕ) → List (Option ℕ)
owners_of logs many = map (owner_by logs) (range_with_len 0 many)

abbrev pub logs_of : Logs → (many : ℕ) → List (List Entry)
logs_of logs many = map (entries_by logs) (range_with_len 0 many)

-- an auditor took these entries of a log, and left the other logs alone
pub record HasTakenOf (before now : AuditState) (log : ℕ) (es : List Entry) : Type 0 where
  pub taken : Takes before now log es
  pub session : now.session ≡ before.session
  pub count : count_in now log ≡ count_in before log + length es
  pub owner : owner_in now log ≡ owner_in before log
  pub others : LeavesOthers before now log

-- an auditor took the logs of the first so many players, and nothing of others
pub record HasTaken (game : Game) (logs : Logs) (many : ℕ) (a : AuditState) : Type 0 where
  pub session : a.session ≡ game
  pub stands : StandsFor game (owners_of logs many) (logs_of logs many) a
  pub none : (i : ℕ) → many ≤ i → count_in a i ≡ 0

-- the logs of all players, and whose they are
abbrev pub audited_logs : Game → Logs → List (List Entry)
audited_logs game logs = logs_of logs (players_of game)

abbrev pub audited_owners : Game → Logs → List (Option ℕ)
audited_owners game logs = owners_of logs (players_of game)

-- where a player stands at the end, by the moves on which the logs agree
abbrev pub world_line : Game → Logs → (q : ℕ) → Option WorldLine
world_line game logs q = world game (audited_owners game logs) (audited_logs game logs) q

-- the lines of all players, where the logs agree on all turns
abbrev pub world_lines : Game → Logs → List WorldLine
world_lines game logs = filter_map (world_line game logs) (range_with_len 0 (players_of game))

-- It is a report on these players' logs, each of which is its player's.
pub record IsReportOn (game : Game) (logs : Logs) (r : Reported) : Type 0 where
  pub found : found_in r ≡ findings game (audited_logs game logs)
  pub world_is : (q : ℕ) → q < players_of game → world_by r q ≡ world_line game logs q
