use Rattle.std.proofs.Common.{◌≡◌, true, nat_lt, refl, arith}
use Rattle.std.proofs.lemmas.Grind.{common_steps}
use Rattle.std.proofs.lemmas.Result.{err_from_is_err_and}
use Rattle.definitions.specs.World.{players_of}
use Rattle.seat_files.specs.Words.{peering_said}
use Rattle.seat_files.proofs.Seated.{a_seat, no_log, no_moves}
use Rattle.seat_files.proofs.seats.open_behind_roster.Goals as goal

pub returns-in_err-pilot : goal.returns-in_err-pilot
returns-in_err-pilot g c =
    let p = err_from_is_err_and c.from_residual.result c.from_residual.ensures.1 in
    rw (p.1, p.2) (no_moves (peering_said c.args.words) _ _ _ _ c.in_err-pilot.field-0.0 c.in_err-pilot.ensures)

pub returns-in_err-begun : goal.returns-in_err-begun
returns-in_err-begun g c =
    let p = err_from_is_err_and c.from_residual-in_err-begun.result c.from_residual-in_err-begun.ensures.1 in
    let in_it : nat_lt c.args.words.player (players_of c.args.session.now) ≡ true = grind (arith, common_steps) in
    rw (p.1, p.2) (no_log (peering_said c.args.words) _ _ _ _ _ c.in_ok-pilot.pilot in_it c.in_ok-pilot.ensures c.in_err-begun.field-0.0 c.in_err-begun.ensures)

pub returns : goal.returns
returns g c =
    let in_it : nat_lt c.args.words.player (players_of c.args.session.now) ≡ true = grind (arith, common_steps) in
    a_seat (peering_said c.args.words) _ _ _ _ _ c.in_ok-pilot.pilot in_it c.in_ok-pilot.ensures _ c.in_ok-begun.begun refl c.requires.links c.in_ok-begun.ensures
