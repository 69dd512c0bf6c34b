use Rattle.std.proofs.lemmas.Result.{err_from_is_err_and}
use Rattle.key_commands.specs.Words.{sealing_said}
use Rattle.key_commands.proofs.Opened.{a_session_then, no_session_then}
use Rattle.key_commands.proofs.opening.open_sealing.Goals as goal

pub returns-in_err-session : goal.returns-in_err-session
returns-in_err-session g c =
    let p = err_from_is_err_and c.from_residual.result c.from_residual.ensures.1 in
    rw (p.1, p.2) (no_session_then (sealing_said c.args.words) _ _ c.in_err-session.field-0.0 c.in_err-session.ensures.opens)

pub returns : goal.returns
returns g c = a_session_then (sealing_said c.args.words) _ _ _ c.in_ok-session.session c.open_after_session.result c.in_ok-session.ensures.opens c.open_after_session.ensures
