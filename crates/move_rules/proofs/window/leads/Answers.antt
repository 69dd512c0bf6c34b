use Rattle.std.proofs.Common.{arith, sym, refl}
use Rattle.move_rules.proofs.Reaching.{walked_no_further, shows_read}
use Rattle.move_rules.proofs.window.leads.Goals as goal

pub returns-then-distance-steps : goal.returns-then-distance-steps
returns-then-distance-steps c = sym (walked_no_further c.args.grid.now c.args.steps c.args.from c.args.to (omega arith))

pub returns : goal.returns
returns c =
    shows_read c.args.grid.now c.args.from c.args.to c.args.steps c.args.steps _ c.from.result _ c.walk_rows-rows.result c.walk_rows-rows.ensures (omega arith) refl c.from.ensures refl
