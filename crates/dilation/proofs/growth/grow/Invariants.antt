use Rattle.std.proofs.Common.{◌≡◌, ◌+◌, ◌≤◌}
use Rattle.dilation.specs.Following.{IsFollowed}
use Rattle.dilation.proofs.growth.grow.Given as goal

abbrev pub invariant-loop-step : goal.invariant-loop-step
invariant-loop-step g l = record {
  followed : IsFollowed l.grid l._cell l.step l.kept;
  turns : l.kept.turns ≡ l.fn.kept.turns;
  counted : l.fn.steps ≤ l.steps;
  cost : l.steps + l.«from» ≤ l.fn.steps + l.step;
}
