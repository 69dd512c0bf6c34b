use Rattle.std.proofs.Common.{◌∙◌, refl, ap, sym, arith}
use Rattle.influence.proofs.Grown.{grown_none, size_kept, open_kept, step_more, sphere_is}
use Rattle.influence.proofs.sphere.sphere_of.Goals as goal
use Rattle.cell_set.specs.Regions.{with_cells}

pub loop-step-init : goal.loop-step-init
loop-step-init c = c.copy_from.ensures ∙ ap (with_cells c.args.from.now) (sym (grown_none c.args.session.now.grid c.args.from.now.cells))

pub grow_walk-requires-clause-size : goal.grow_walk-requires-clause-size
grow_walk-requires-clause-size c = size_kept _ _ _ _ _ c.requires.size c.grid.ensures.value c.loop-step.invariant

pub grow_walk-requires-clause-open : goal.grow_walk-requires-clause-open
grow_walk-requires-clause-open c = open_kept _ _ _ _ _ c.requires.open c.grid.ensures.value c.loop-step.invariant

pub loop-step-preserved : goal.loop-step-preserved
loop-step-preserved c = step_more _ _ _ _ _ _ c.grid.ensures.value c.loop-step.invariant c.grow_walk.ensures.cells

pub grow_strike-requires-clause-size : goal.grow_strike-requires-clause-size
grow_strike-requires-clause-size c = size_kept _ _ _ _ _ c.requires.size refl c.loop-step.invariant

pub returns : goal.returns
returns c =
    sphere_is c.args.session.now c.args.player c.loop-step._step c.args.from.now c.args.out.now _ _ c.requires.size c.requires.out_size
    (omega arith) (omega arith) c.loop-step.invariant c.grow_strike.ensures
