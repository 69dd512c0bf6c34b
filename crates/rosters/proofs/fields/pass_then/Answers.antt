use Rattle.std.proofs.Common.{[], ◌∷◌, ap, ◌∙◌, arith}
use Rattle.byte_fields.specs.Fronts.{behind}
use Rattle.text_fields.specs.Hexes.{bytes_of}
use Rattle.rosters.proofs.Passes.{pass_bad, pass_short, pass_there, pass_unmarked}
use Rattle.rosters.proofs.fields.pass_then.Goals as goal

pub returns-then-text-lt-PASS_DIGITS : goal.returns-then-text-lt-PASS_DIGITS
returns-then-text-lt-PASS_DIGITS c = pass_short c.args.mark c.args.text.now (omega arith)

pub returns-in_err-rest : goal.returns-in_err-rest
returns-in_err-rest c =
    rw c.from_residual.ensures (pass_unmarked c.args.mark c.args.text.now (c.in_err-rest.ensures ∙ ap (behind (c.args.mark ∷ [])) c.split_at.ensures.back))

pub returns-in_err-pass : goal.returns-in_err-pass
returns-in_err-pass c =
    rw c.from_residual-in_err-pass.ensures (
    pass_bad c.args.mark c.args.text.now c.in_ok-rest.rest.now (c.in_ok-rest.ensures ∙ ap (behind (c.args.mark ∷ [])) c.split_at.ensures.back) (c.in_err-pass.ensures ∙ ap bytes_of c.split_at.ensures.front)
    )

pub returns : goal.returns
returns c =
    pass_there c.args.mark c.args.text.now c.in_ok-rest.rest.now c.in_ok-pass.pass (c.in_ok-rest.ensures ∙ ap (behind (c.args.mark ∷ [])) c.split_at.ensures.back) (c.in_ok-pass.ensures ∙ ap bytes_of c.split_at.ensures.front)
