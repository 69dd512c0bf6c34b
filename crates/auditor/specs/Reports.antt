-- Reports: what a report tells of logs.
use Rattle.std.specs.Prelude.{◌≡◌, ◌<◌, ◌≤◌, ℕ, List, None, Option}
use Rattle.definitions.specs.declared.logs.Entry.{Entry}
use Rattle.definitions.specs.declared.findings.Finding.{Finding}
use Rattle.definitions.specs.Lists.{item_or}
use Rattle.definitions.specs.World.{Game, players_of}
use Rattle.definitions.specs.Findings.{findings}
use Rattle.auditor.specs.declared.world.WorldLine.{WorldLine}
use Rattle.auditor.specs.Agreed.{AreOwned, agreed_count, world}
use Rattle.auditor.specs.Played.{line_at}

-- a report as contracts see it: its findings, how many turns of each player are agreed, and each player's line, or none
pub record Reported : Type 0 where
  pub found : List Finding
  pub agreed : List ℕ
  pub lines : List WorldLine

-- the findings that it lists
abbrev pub found_in : Reported → List Finding
found_in r = r.found

-- how many turns of the player are agreed by it, and none of a player whom it doesn't know
abbrev pub agreed_by : Reported → ℕ → ℕ
agreed_by r q = item_or r.agreed q 0

-- where the player stands at the end by it, if it tells that
abbrev pub world_by : Reported → ℕ → Option WorldLine
world_by r q = line_at r.lines q

-- it tells what these logs show, each of which is its owner's, and nothing of players that the session lacks
pub record IsReportOf (game : Game) (owners : List (Option ℕ)) (logs : List (List Entry)) (r : Reported) : Type 0 where
  pub found : found_in r ≡ findings game logs
  pub agreed : AreOwned game owners logs → (q : ℕ) → q < players_of game → agreed_by r q ≡ agreed_count game owners logs q
  pub world : AreOwned game owners logs → (q : ℕ) → q < players_of game → world_by r q ≡ world game owners logs q
  pub beyond : (q : ℕ) → players_of game ≤ q → (agreed_by r q ≡ 0) × (world_by r q ≡ None)
