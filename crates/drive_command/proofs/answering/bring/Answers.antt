use Rattle.std.proofs.Common.{◌∙◌}
use Rattle.std.proofs.lemmas.Result.{err_from_is_err_and}
use Rattle.run_frame.specs.declared.statuses.Status.TheVariants.{OutputFault}
use Rattle.run_frame.proofs.Frames.{onward_ends, onward_on}
use Rattle.drive_command.proofs.answering.bring.Goals as goal

pub returns-in_err-used-clause-text : goal.returns-in_err-used-clause-text
returns-in_err-used-clause-text g c = λ input.
    let p = err_from_is_err_and c.from_residual.result c.from_residual.ensures.1 in
    rw (p.1, p.2) (onward_ends _ _ _ _ _ OutputFault (c.parts.invariant.text input) (c.in_err-used.ensures.text input))

pub parts-preserved : goal.parts-preserved
parts-preserved g c =
    let more = rw c.in-Some.is at c.in_ok-used.ensures.more in
    record {
      text = λ input. onward_on _ _ _ _ _ _ (c.parts.invariant.text input) (rw c.split_at.ensures.back (rw c.in-Some.is at (c.in_ok-used.ensures.text input)));
      may = rw c.split_at.ensures.back more.2;
      lines = c.bring_part.ensures.lines ∙ c.parts.invariant.lines;
    }

pub returns-clause-text : goal.returns-clause-text
returns-clause-text g c = λ input. onward_on _ _ _ _ _ _ (c.parts.invariant.text input) (rw c.in_default.is at (c.in_ok-used.ensures.text input))
