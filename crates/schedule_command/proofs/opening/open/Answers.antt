use Rattle.std.proofs.Common.{[], arith, ◌+◌}
use Rattle.std.specs.Prelude.{Ok, Err}
use Rattle.std.proofs.lemmas.Result.{err_from_is_err_and}
use Rattle.run_frame.proofs.Frames.{plays_none, plays_on}
use Rattle.schedule_command.specs.Schedule.{opened_from}
use Rattle.schedule_command.proofs.Opened.{opens_behind}
use Rattle.schedule_command.proofs.opening.open.Goals as goal

pub lines-init : goal.lines-init
lines-init g c = record { text = λ sink. plays_none _ _ _ _; few = omega arith }

pub lines-preserved : goal.lines-preserved
lines-preserved g c = record {
  text = λ sink. plays_on _ _ _ _ _ _ (opened_from c.args.session.now 0) (opened_from c.args.session.now c.lines.lines) (opened_from c.args.session.now (c.lines.lines + 1)) _ _ _ (c.lines.invariant.text sink) (rw c.in-None.is at (c.in_ok-open_line.ensures.text) sink);
  few = omega (arith, rw c.in-None.is at c.in_ok-open_line.ensures.few);
}

pub returns-in-Some-clause-text : goal.returns-in-Some-clause-text
returns-in-Some-clause-text g c = opens_behind _ _ _ _ _ _ _ _ _ (Ok c.in-Some.opening) c.lines.invariant.text (rw c.in-Some.is at c.in_ok-open_line.ensures.text)

pub returns-in-Some-clause-few : goal.returns-in-Some-clause-few
returns-in-Some-clause-few g c = rw c.in-Some.is at c.in_ok-open_line.ensures.few

pub returns-in_err-open_line-clause-text : goal.returns-in_err-open_line-clause-text
returns-in_err-open_line-clause-text g c =
    let p = err_from_is_err_and c.from_residual.result c.from_residual.ensures.1 in
    rw (p.1, p.2) (opens_behind c.args.session.now _ _ _ _ _ _ _ [] (Err c.in_err-open_line.field-0.0) c.lines.invariant.text c.in_err-open_line.ensures.text)
