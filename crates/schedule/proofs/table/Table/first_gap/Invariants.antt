use Rattle.std.proofs.Common.{◌≡◌}
use Rattle.definitions.specs.Lists.{first_of}
use Rattle.definitions.specs.World.{players_of}
use Rattle.schedule.specs.Stands.{gap_of, players}
use Rattle.schedule.proofs.Firsts.{from}
use Rattle.schedule.proofs.table.Table.first_gap.Given as goal

abbrev pub invariant-loop-player : goal.invariant-loop-player
invariant-loop-player l = first_of (gap_of l.self.game l.self.logs) (from l.player (players_of l.self.game)) ≡ first_of (gap_of l.self.game l.self.logs) (players l.self.game)
