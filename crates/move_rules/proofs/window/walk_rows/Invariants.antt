use Rattle.move_rules.specs.Windows.{ShowsWalk}
use Rattle.move_rules.proofs.window.walk_rows.Given as goal

abbrev pub invariant-loop-step : goal.invariant-loop-step
invariant-loop-step l = ShowsWalk l.grid l.fn.middle l.radius l._step l.rows
