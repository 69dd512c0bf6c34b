use Rattle.std.proofs.Common.{◌≡◌}
use Rattle.influence.proofs.Grown.{grown}
use Rattle.influence.proofs.sphere.sphere_of.Given as goal

abbrev pub invariant-loop-step : goal.invariant-loop-step
invariant-loop-step l = l.out ≡ record l.from { cells = grown l.session.grid l._step l.from.cells }
