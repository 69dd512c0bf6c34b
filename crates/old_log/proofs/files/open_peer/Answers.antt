use Rattle.std.proofs.lemmas.Result.{err_from_is_err_and}
use Rattle.old_log.proofs.Fetched.{opened, unopened}
use Rattle.old_log.proofs.files.open_peer.Goals as goal

pub returns : goal.returns
returns g c = opened _ _ _ _ _ _ c.in_ok-session.session c.begin.result c.in_ok-session.ensures c.begin.ensures

pub returns-in_err-session : goal.returns-in_err-session
returns-in_err-session g c =
    let p = err_from_is_err_and c.from_residual.result c.from_residual.ensures.1 in
    rw (p.1, p.2) (unopened _ _ _ _ _ c.in_err-session.field-0.0 c.in_err-session.ensures)
