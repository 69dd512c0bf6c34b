use Rattle.std.proofs.Common.{refl}
use Rattle.std.proofs.lemmas.Result.{err_from_is_err_and}
use Rattle.key_commands.specs.Words.{keying_said}
use Rattle.key_commands.proofs.Opened.{a_seed, no_seed, no_session}
use Rattle.key_commands.proofs.opening.open_keys.Goals as goal

pub returns-in_err-session : goal.returns-in_err-session
returns-in_err-session g c =
    let p = err_from_is_err_and c.from_residual.result c.from_residual.ensures.1 in
    rw (p.1, p.2) (no_session (keying_said c.args.words) _ _ c.in_err-session.field-0.0 c.in_err-session.ensures.opens)

pub returns-in_err-seed : goal.returns-in_err-seed
returns-in_err-seed g c =
    let p = err_from_is_err_and c.from_residual-in_err-seed.result c.from_residual-in_err-seed.ensures.1 in
    rw (p.1, p.2) (no_seed (keying_said c.args.words) _ _ _ c.in_ok-session.session c.in_ok-session.ensures.opens c.in_err-seed.field-0.0 c.in_err-seed.ensures)

pub returns : goal.returns
returns g c = a_seed (keying_said c.args.words) _ _ _ c.in_ok-session.session c.in_ok-session.ensures.opens c.in_ok-seed.seed _ refl refl c.in_ok-session.ensures.within c.in_ok-seed.ensures
