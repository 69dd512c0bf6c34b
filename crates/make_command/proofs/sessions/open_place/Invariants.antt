use Rattle.std.proofs.Common.{◌≡◌, ◌-◌, ◌<◌}
use Rattle.make_command.specs.declared.sizes.TheConstants.{CELLS}
use Rattle.make_command.specs.Making.{open_place}
use Rattle.make_command.proofs.sessions.open_place.Given as goal

abbrev pub invariant-loop-step : goal.invariant-loop-step
invariant-loop-step l = (l.place < CELLS) × (open_place l.walls (CELLS - l.step) l.place ≡ open_place l.walls CELLS l.first)
