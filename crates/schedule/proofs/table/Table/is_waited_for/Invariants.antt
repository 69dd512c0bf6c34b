use Rattle.std.proofs.Common.{◌≡◌}
use Rattle.std.specs.List.{list_any}
use Rattle.definitions.specs.World.{players_of}
use Rattle.definitions.specs.Steps.{log_of}
use Rattle.schedule.specs.Stands.{players, waits_for}
use Rattle.schedule.proofs.Firsts.{from}
use Rattle.schedule.proofs.table.Table.is_waited_for.Given as goal

abbrev pub invariant-loop-who : goal.invariant-loop-who
invariant-loop-who l =
    list_any (λ p. waits_for l.self.game p (log_of l.self.logs p) l.player) (from l.who (players_of l.self.game)) ≡ list_any (λ p. waits_for l.self.game p (log_of l.self.logs p) l.player) (players l.self.game)
