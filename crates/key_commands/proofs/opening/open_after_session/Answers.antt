use Rattle.std.proofs.Common.{refl}
use Rattle.std.proofs.lemmas.Result.{err_from_is_err_and}
use Rattle.key_commands.specs.Words.{sealing_said}
use Rattle.key_commands.proofs.Opened.{a_log, no_log, no_seed_then}
use Rattle.key_commands.proofs.opening.open_after_session.Goals as goal

pub returns-in_err-seed : goal.returns-in_err-seed
returns-in_err-seed g c =
    let p = err_from_is_err_and c.from_residual.result c.from_residual.ensures.1 in
    rw (p.1, p.2) (no_seed_then (sealing_said c.args.words) c.args.session.now _ _ c.in_err-seed.field-0.0 c.in_err-seed.ensures)

pub returns-in_err-peer : goal.returns-in_err-peer
returns-in_err-peer g c =
    let p = err_from_is_err_and c.from_residual-in_err-peer.result c.from_residual-in_err-peer.ensures.1 in
    rw (p.1, p.2) (no_log (sealing_said c.args.words) c.args.session.now _ _ _ c.in_ok-seed.seed c.in_ok-seed.ensures c.in_err-peer.field-0.0 c.in_err-peer.ensures.opens)

pub returns : goal.returns
returns g c = a_log (sealing_said c.args.words) c.args.session.now _ _ _ c.in_ok-seed.seed c.in_ok-seed.ensures c.in_ok-peer.peer _ refl refl c.requires c.in_ok-peer.ensures.honest c.in_ok-peer.ensures.opens
