use Rattle.std.proofs.lemmas.Result.{err_from_is_err_and}
use Rattle.file_commands.specs.SealedWords.{sealed_judging_said}
use Rattle.file_commands.proofs.SealedOpened.{no_evidence, no_roots, some_roots}
use Rattle.file_commands.proofs.sealed_cases.open_after_session.Goals as goal

pub returns-in_err-sealed : goal.returns-in_err-sealed
returns-in_err-sealed g c =
    let p = err_from_is_err_and c.from_residual.result c.from_residual.ensures.1 in
    rw (p.1, p.2) (no_evidence (sealed_judging_said c.args.words) c.args.session _ _ c.in_err-sealed.field-0.0 c.in_err-sealed.ensures)

pub returns-in_err-roots : goal.returns-in_err-roots
returns-in_err-roots g c =
    let p = err_from_is_err_and c.from_residual-in_err-roots.result c.from_residual-in_err-roots.ensures.1 in
    rw (p.1, p.2) (no_roots (sealed_judging_said c.args.words) c.args.session _ _ _ c.in_ok-sealed.sealed c.in_ok-sealed.ensures c.in_err-roots.field-0.0 c.in_err-roots.ensures)

pub returns : goal.returns
returns g c = some_roots (sealed_judging_said c.args.words) c.args.session _ _ _ c.in_ok-sealed.sealed c.in_ok-sealed.ensures c.in_ok-roots.roots c.in_ok-roots.ensures
