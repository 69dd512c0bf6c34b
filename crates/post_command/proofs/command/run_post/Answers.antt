use Rattle.std.proofs.Common.{refl, subst}
use Rattle.std.specs.Prelude.{Ok, Err}
use Rattle.seat_files.specs.Seats.{OpensSeat}
use Rattle.seat_files.specs.Words.{Peering, posting_said}
use Rattle.seat_files.proofs.Worked.{seat_links}
use Rattle.post_command.proofs.OverDatagrams.{a_seat_works, no_seat, seat_anew}
use Rattle.post_command.proofs.command.run_post.Goals as goal

pub returns-in-Err : goal.returns-in-Err
returns-in-Err g c = λ rest. no_seat (posting_said c.args.words) rest _ _ _ _ _ c.in-Err.status
    (subst (λ (p : Peering). OpensSeat p (g.H.Shelf.state c.args.shelf.now) (g.H.Shelf.state c.open_seat.new.shelf) (Err c.in-Err.status)) c.peer_words-named.ensures c.in-Err.ensures)

pub returns-in-Ok : goal.returns-in-Ok
returns-in-Ok g c = λ rest. a_seat_works (posting_said c.args.words) rest _ _ _ _ _ c.in-Ok.seat
    (subst (λ (p : Peering). OpensSeat p (g.H.Shelf.state c.args.shelf.now) (g.H.Shelf.state c.open_seat.new.shelf) (Ok c.in-Ok.seat)) c.peer_words-named.ensures c.in-Ok.ensures)
    _ _ _ c.play_post.result c.play_post.ensures

pub play_post-requires-clause-links : goal.play_post-requires-clause-links
play_post-requires-clause-links g c = seat_links (posting_said c.args.words) (g.H.Shelf.state c.args.shelf.now) (g.H.Shelf.state c.open_seat.new.shelf) c.in-Ok.seat
    (subst (λ (p : Peering). OpensSeat p (g.H.Shelf.state c.args.shelf.now) (g.H.Shelf.state c.open_seat.new.shelf) (Ok c.in-Ok.seat)) c.peer_words-named.ensures c.in-Ok.ensures)

pub play_post-requires-clause-anew : goal.play_post-requires-clause-anew
play_post-requires-clause-anew g c = seat_anew (posting_said c.args.words) (g.H.Shelf.state c.args.shelf.now) (g.H.Shelf.state c.open_seat.new.shelf) c.in-Ok.seat
    (subst (λ (p : Peering). OpensSeat p (g.H.Shelf.state c.args.shelf.now) (g.H.Shelf.state c.open_seat.new.shelf) (Ok c.in-Ok.seat)) c.peer_words-named.ensures c.in-Ok.ensures) refl
