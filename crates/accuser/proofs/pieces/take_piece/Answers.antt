use Rattle.std.proofs.Common.{arith, length, take}
use Rattle.std.proofs.lemmas.List.{length-take}
use Rattle.accuser.proofs.Fed.{has_room}
use Rattle.accuser.proofs.pieces.take_piece.Goals as goal

pub take-requires-clause-room : goal.take-requires-clause-room
take-requires-clause-room g c =
    let long = length-take c.in-Took.count c.read_at.new.buf in
    let few = c.if-count-at.false in
    has_room c.args.session.now c.args.roots.now c.args.file c.args.taker.now c.args.feed.now c.args.at (length (take c.in-Took.count c.read_at.new.buf)) c.requires.so_far (omega (arith, long, few, c.requires.few))
