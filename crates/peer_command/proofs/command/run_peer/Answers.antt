use Rattle.seat_files.specs.Words.{peering_said}
use Rattle.seat_files.proofs.Worked.{seat_links}
use Rattle.peer_command.proofs.OverSockets.{a_seat_works, no_seat}
use Rattle.peer_command.proofs.command.run_peer.Goals as goal

pub returns-in-Err : goal.returns-in-Err
returns-in-Err g c = λ rest. no_seat (peering_said c.args.words) rest _ _ _ _ _ c.in-Err.status c.in-Err.ensures

pub returns-in-Ok : goal.returns-in-Ok
returns-in-Ok g c = λ rest. a_seat_works (peering_said c.args.words) rest _ _ _ _ _ c.in-Ok.seat c.in-Ok.ensures _ _ _ c.play_peer.result c.play_peer.ensures

pub play_peer-requires-clause-links : goal.play_peer-requires-clause-links
play_peer-requires-clause-links g c = seat_links (peering_said c.args.words) _ _ c.in-Ok.seat c.in-Ok.ensures
