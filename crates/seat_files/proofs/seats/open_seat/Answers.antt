use Rattle.std.proofs.lemmas.Result.{err_from_is_err_and}
use Rattle.seat_files.specs.Words.{peering_said}
use Rattle.seat_files.proofs.Seated.{a_session, no_session}
use Rattle.seat_files.proofs.seats.open_seat.Goals as goal

pub returns-in_err-session : goal.returns-in_err-session
returns-in_err-session g c =
    let p = err_from_is_err_and c.from_residual.result c.from_residual.ensures.1 in
    rw (p.1, p.2) (no_session (peering_said c.args.words) _ _ c.in_err-session.field-0.0 c.in_err-session.ensures)

pub returns : goal.returns
returns g c = a_session (peering_said c.args.words) _ _ _ c.in_ok-session.session c.open_behind_session.result c.in_ok-session.ensures c.open_behind_session.ensures
