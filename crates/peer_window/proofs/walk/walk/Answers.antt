use Rattle.std.proofs.Common.{ap, sym}
use Rattle.peer_window.specs.Steps.{is_stop}
use Rattle.peer_window.proofs.Reached.{stream_open, slots_committed, slots_resolved, step_committed, step_resolved, step_stop}
use Rattle.peer_window.proofs.walk.walk.Goals as goal

pub next_step-requires-clause-track : goal.next_step-requires-clause-track
next_step-requires-clause-track c =
    stream_open c.args.session.now c.args.player c.args.slots.now c.loop-stream.stream c.facts.ensures c.requires.player c.loop-stream.invariant.stream

pub returns-in-Halt-clause-walked : goal.returns-in-Halt-clause-walked
returns-in-Halt-clause-walked c = record {
  stream = c.loop-stream.invariant.stream;
  whole = step_stop c.args.session.now c.args.player c.args.slots.now c.loop-stream.stream c.facts.ensures c.requires.length c.loop-stream.invariant.slots c.loop-stream.invariant.stream (ap is_stop (sym c.in-Halt.ensures.step));
}

pub returns-in-Illegal-clause-walked : goal.returns-in-Illegal-clause-walked
returns-in-Illegal-clause-walked c = record {
  stream = c.loop-stream.invariant.stream;
  whole = step_stop c.args.session.now c.args.player c.args.slots.now c.loop-stream.stream c.facts.ensures c.requires.length c.loop-stream.invariant.slots c.loop-stream.invariant.stream (ap is_stop (sym c.in-Illegal.ensures.step));
}

pub loop-stream-preserved-in-Committed : goal.loop-stream-preserved-in-Committed
loop-stream-preserved-in-Committed c = record {
  slots = slots_committed c.args.session.now c.args.player c.args.slots.now c.loop-stream.stream c.requires.length c.loop-stream.invariant.slots (sym c.in-Committed.ensures.step);
  stream = step_committed c.args.session.now c.args.player c.args.slots.now c.loop-stream.stream c.loop-stream.invariant.slots c.loop-stream.invariant.stream (sym c.in-Committed.ensures.step);
}

pub loop-stream-preserved : goal.loop-stream-preserved
loop-stream-preserved c = record {
  slots = slots_resolved c.args.session.now c.args.player c.args.slots.now c.loop-stream.stream c.in-Resolved.track c.facts.ensures c.requires.length c.loop-stream.invariant.slots (sym c.in-Resolved.ensures.step);
  stream = step_resolved c.args.session.now c.args.player c.args.slots.now c.loop-stream.stream c.in-Resolved.track c.facts.ensures c.requires.length c.loop-stream.invariant.slots c.loop-stream.invariant.stream (sym c.in-Resolved.ensures.step);
}
