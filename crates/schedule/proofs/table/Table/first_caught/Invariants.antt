use Rattle.std.proofs.Common.{◌≡◌}
use Rattle.std.specs.Prelude.{find}
use Rattle.definitions.specs.World.{players_of}
use Rattle.schedule.specs.Stands.{is_caught, players}
use Rattle.schedule.proofs.Firsts.{from}
use Rattle.schedule.proofs.table.Table.first_caught.Given as goal

abbrev pub invariant-loop-player : goal.invariant-loop-player
invariant-loop-player l = find (is_caught l.self.game l.self.logs) (from l.player (players_of l.self.game)) ≡ find (is_caught l.self.game l.self.logs) (players l.self.game)
