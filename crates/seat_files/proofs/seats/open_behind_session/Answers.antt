use Rattle.std.proofs.Common.{◌≡◌, ◌<◌, true, false, nat_lt, arith}
use Rattle.std.proofs.lemmas.Grind.{common_steps}
use Rattle.std.proofs.lemmas.Result.{err_from_is_err_and}
use Rattle.definitions.specs.World.{players_of}
use Rattle.seat_files.specs.Words.{peering_said}
use Rattle.seat_files.proofs.Seated.{a_roster, no_player, no_roster}
use Rattle.seat_files.proofs.seats.open_behind_session.Goals as goal

pub returns-then-words-players : goal.returns-then-words-players
returns-then-words-players g c =
    let out : nat_lt c.args.words.player (players_of c.args.session.now) ≡ false = grind (arith, common_steps) in
    no_player (peering_said c.args.words) _ (g.H.Shelf.state c.args.shelf.now) (g.H.Shelf.state c.args.shelf.now) out

pub returns-in_err-roster : goal.returns-in_err-roster
returns-in_err-roster g c =
    let less : c.args.words.player < players_of c.args.session.now = grind (arith, common_steps) in
    let in_it : nat_lt c.args.words.player (players_of c.args.session.now) ≡ true = grind (arith, common_steps) in
    let p = err_from_is_err_and c.from_residual.result c.from_residual.ensures.1 in
    rw (p.1, p.2) (no_roster (peering_said c.args.words) _ _ _ in_it less c.in_err-roster.field-0.0 c.in_err-roster.ensures.opens)

pub returns : goal.returns
returns g c =
    let less : c.args.words.player < players_of c.args.session.now = grind (arith, common_steps) in
    let in_it : nat_lt c.args.words.player (players_of c.args.session.now) ≡ true = grind (arith, common_steps) in
    a_roster (peering_said c.args.words) _ _ _ in_it less _ c.in_ok-roster.roster c.open_behind_roster.result c.in_ok-roster.ensures.opens c.open_behind_roster.ensures
