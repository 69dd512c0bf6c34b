use Rattle.peer_window.proofs.Reached.{stream_open}
use Rattle.peer_window.proofs.walk.illegal_reveal.Goals as goal

pub turn_step-requires-clause-track : goal.turn_step-requires-clause-track
turn_step-requires-clause-track c = stream_open c.args.session.now c.args.player c.args.slots.now c.args.stream.now c.facts.ensures c.requires.player c.requires.stream
