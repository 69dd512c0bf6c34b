use Rattle.std.proofs.lemmas.Result.{err_from_is_err_and}
use Rattle.file_commands.proofs.CaseOpened.{an_exhibit, no_exhibit, no_session}
use Rattle.file_commands.proofs.exhibits.open_case.Goals as goal

pub returns-in_err-session : goal.returns-in_err-session
returns-in_err-session g c =
    let p = err_from_is_err_and c.from_residual.result c.from_residual.ensures.1 in
    rw (p.1, p.2) (no_session _ _ _ _ c.in_err-session.field-0.0 c.in_err-session.ensures)

pub returns-in_err-exhibit : goal.returns-in_err-exhibit
returns-in_err-exhibit g c =
    let p = err_from_is_err_and c.from_residual-in_err-exhibit.result c.from_residual-in_err-exhibit.ensures.1 in
    rw (p.1, p.2) (no_exhibit _ _ _ _ _ c.in_ok-session.session c.in_err-exhibit.field-0.0 c.in_ok-session.ensures c.in_err-exhibit.ensures)

pub returns : goal.returns
returns g c = an_exhibit _ _ _ _ _ c.in_ok-session.session c.in_ok-exhibit.exhibit c.in_ok-session.ensures c.in_ok-exhibit.ensures
