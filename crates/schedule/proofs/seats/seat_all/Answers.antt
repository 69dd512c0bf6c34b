use Rattle.std.proofs.Common.{ap, ◌∙◌, sym, List, ◌∷◌, [], ◌++◌, Option, arith}
use Rattle.std.specs.Prelude.{map}
use Rattle.std.specs.List.{range_with_len}
use Rattle.std.proofs.lemmas.List.FromFn.{map-range_with_len_more}
use Rattle.peer_core.specs.Views.{PeerState}
use Rattle.schedule.specs.Seats.{first_seat}
use Rattle.schedule.proofs.seats.seat_all.Goals as goal

pub loop-player-preserved : goal.loop-player-preserved
loop-player-preserved c =
    let first = first_seat c.args.session.now c.args.hostile in
    c.in_ok-push.ensures.items ∙ ap (λ (ss : List (Option PeerState)). ss ++ c.in_ok-seat.seat ∷ []) c.loop-player.invariant
    ∙ ap (λ (s : Option PeerState). map first (range_with_len 0 c.loop-player.player) ++ s ∷ []) c.in_ok-seat.ensures
    ∙ sym (map-range_with_len_more first 0 c.loop-player.player c.loop-player.player (omega arith))
