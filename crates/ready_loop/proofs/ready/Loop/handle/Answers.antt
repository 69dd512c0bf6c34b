use Rattle.std.proofs.Common.{sym, ◌∙◌}
use Rattle.std.proofs.lemmas.Result.{err_from_is_err_and}
use Rattle.ready_loop.proofs.Handled.{handles_first, handles_on, handles_fault, cleared_ready, handles_all}
use Rattle.ready_loop.proofs.CallsIn.{hearing_on, hears_smaller}
use Rattle.ready_loop.proofs.ready.Loop.handle.Goals as goal

pub loop-self-init : goal.loop-self-init
loop-self-init g c = handles_first _ c.args.self.now c.requires.hearing

pub hear-requires-clause-hearing : goal.hear-requires-clause-hearing
hear-requires-clause-hearing g c = hearing_on _ _ c.args.self.now c.loop-self.self c.loop-self.invariant

pub returns-in_err-hear : goal.returns-in_err-hear
returns-in_err-hear g c =
    let p = err_from_is_err_and c.from_residual.result c.from_residual.ensures.1 in
    rw (p.1, p.2)
    (handles_fault c.in_err-hear.field-0.0 _ _ _ c.args.self.now c.loop-self.self c.hear.new.self c.loop-self.invariant c.in_err-hear.ensures)

pub loop-self-smaller : goal.loop-self-smaller
loop-self-smaller g c = hears_smaller _ _ _ c.loop-self.self c.hear.new.self (sym c.has_next.ensures ∙ c.loop-self-test.true) c.in_ok-hear.ensures

pub loop-self-preserved : goal.loop-self-preserved
loop-self-preserved g c = handles_on _ _ _ _ c.args.self.now c.loop-self.self c.hear.new.self c.loop-self.invariant c.in_ok-hear.ensures

pub stop_if_caught-requires : goal.stop_if_caught-requires
stop_if_caught-requires g c = record { ready = cleared_ready _ _ c.args.self.now c.loop-self.self c.clear.new.self c.loop-self.invariant (sym c.has_next.ensures ∙ c.loop-self-test.false) c.clear.ensures }

pub returns : goal.returns
returns g c = handles_all c.stop_if_caught.result _ _ _ c.args.self.now c.loop-self.self c.clear.new.self c.stop_if_caught.new.self c.loop-self.invariant (sym c.has_next.ensures ∙ c.loop-self-test.false) c.clear.ensures c.stop_if_caught.ensures
