use Rattle.std.proofs.Common.{◌≡◌, drop}
use Rattle.std.specs.Prelude.{map}
use Rattle.definitions.specs.Steps.{run}
use Rattle.schedule.specs.Steps.{meant}
use Rattle.schedule.proofs.table.Table.step_all.Given as goal

abbrev pub invariant-loop-step : goal.invariant-loop-step
invariant-loop-step l = record {
  game : l.self.game ≡ l.fn.self.game;
  rest : run l.self.game l.self.logs (map meant (drop l.step-index l.steps)) ≡ run l.fn.self.game l.fn.self.logs (map meant l.steps);
}
