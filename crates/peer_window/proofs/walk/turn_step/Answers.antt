use Rattle.std.proofs.Common.{◌+◌, ◌*◌, ap, sym, ◌∙◌}
use Rattle.definitions.specs.World.{players_of}
use Rattle.peer_window.specs.Slots.{slot}
use Rattle.peer_window.proofs.Agreeing.{bad_halts, move_decides}
use Rattle.peer_window.proofs.Reached.{own_player}
use Rattle.peer_window.proofs.walk.turn_step.Goals as goal

pub frame_step-requires-clause-player : goal.frame_step-requires-clause-player
frame_step-requires-clause-player c =
    own_player c.args.player c.args.stream.now.commits c.args.stream.now.resolved (2 * c.args.stream.now.resolved + 1) (players_of c.args.session.now) c.args.slots.now c.in-Some.received c.requires.slots
    (sym (c.in-Some.ensures ∙ ap (slot c.args.slots.now) c.reveal_slot.ensures)) c.requires.player

pub returns-then-is_of : goal.returns-then-is_of
returns-then-is_of c = record { step = bad_halts c.args.session.now c.args.slots.now c.args.bad.now c.args.stream.now c.is_of.result c.requires.agree c.is_of.ensures c.if-is_of.true }

pub returns-in-Some : goal.returns-in-Some
returns-in-Some c = record {
  step = move_decides c.args.session.now c.args.slots.now c.args.bad.now c.args.stream.now c.is_of.result c.slot-before.result c.in-Some.received c.frame_step.result c.requires.agree c.is_of.ensures c.if-is_of.false
      (c.slot-before.ensures ∙ ap (slot c.args.slots.now) c.commitment_slot.ensures) (c.in-Some.ensures ∙ ap (slot c.args.slots.now) c.reveal_slot.ensures) c.frame_step.ensures.step;
}
