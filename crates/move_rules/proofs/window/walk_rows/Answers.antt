use Rattle.move_rules.proofs.Reaching.{shows_middle, shows_next}
use Rattle.move_rules.proofs.window.walk_rows.Goals as goal

pub loop-step-init : goal.loop-step-init
loop-step-init c = shows_middle c.args.grid.now c.args.middle c.args.radius c.middle_rows-rows.result c.requires.middle c.middle_rows-rows.ensures

pub loop-step-preserved : goal.loop-step-preserved
loop-step-preserved c =
    shows_next c.args.grid.now c.args.middle c.args.radius c.loop-step._step c.open_rows-opens.result c.loop-step.rows c.next_rows-rows.result
    c.loop-step-test.true c.open_rows-opens.ensures c.loop-step.invariant c.next_rows-rows.ensures
