use Rattle.std.proofs.lemmas.Result.{err_from_is_err_and}
use Rattle.ready_loop.proofs.Choosing.{choosing_first, choosing_smaller, choosing_on, choosing_stops, choosing_ends}
use Rattle.ready_loop.proofs.ready.Loop.choose_all.Goals as goal

pub loop-self-init : goal.loop-self-init
loop-self-init g c = choosing_first _ _ c.args.self.now c.requires.playing

pub loop-self-smaller : goal.loop-self-smaller
loop-self-smaller g c = choosing_smaller _ _ _ _ _ c.loop-self.self c.choose.new.self c.in_ok-choose.ensures c.facts.ensures.chosen_few

pub loop-self-preserved : goal.loop-self-preserved
loop-self-preserved g c = choosing_on _ _ _ _ _ _ _ c.args.self.now c.loop-self.self c.choose.new.self c.loop-self.invariant c.in_ok-choose.ensures

pub returns-in_err-choose : goal.returns-in_err-choose
returns-in_err-choose g c =
    let p = err_from_is_err_and c.from_residual.result c.from_residual.ensures.1 in
    rw (p.1, p.2)
    (choosing_stops c.in_err-choose.field-0.0 _ _ _ _ _ _ c.args.self.now c.loop-self.self c.choose.new.self c.loop-self.invariant c.in_err-choose.ensures)

pub returns : goal.returns
returns g c = choosing_ends _ _ c.may_choose.result _ _ c.args.self.now c.loop-self.self c.loop-self.invariant c.may_choose.ensures c.loop-self-test.false
