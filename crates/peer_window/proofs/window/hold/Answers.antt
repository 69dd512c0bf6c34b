use Rattle.std.proofs.Common.{ℕ, ap, arith, sym, ◌∙◌}
use Rattle.std.specs.Prelude.{◌==◌}
use Rattle.definitions.specs.Answers.{place_of}
use Rattle.peer_window.specs.Slots.{slot}
use Rattle.peer_window.specs.Windows.{new_answer}
use Rattle.peer_window.proofs.Holding.{agree_held, held_answer}
use Rattle.peer_window.proofs.Grown.{stream_kept, slots_set, walked_held}
use Rattle.peer_window.proofs.window.hold.Goals as goal

pub walk-stream-requires-clause-slots : goal.walk-stream-requires-clause-slots
walk-stream-requires-clause-slots c =
    slots_set c.args.player c.args.from.now.commits c.args.from.now.resolved c.slot_of-at.result c.args.slots.now c.args.received.now c.requires.held.slots (sym c.slot_of-at.ensures) c.requires.own (omega arith) (ap (slot c.args.slots.now) c.slot_of-at.ensures ∙ c.requires.empty)

pub walk-stream-requires-clause-stream : goal.walk-stream-requires-clause-stream
walk-stream-requires-clause-stream c = stream_kept c.args.session.now c.args.player c.slot_of-at.result c.args.slots.now c.args.received.now c.args.from.now c.requires.held (omega arith) (ap (slot c.args.slots.now) c.slot_of-at.ensures ∙ c.requires.empty) c.requires.later

pub walk-stream-requires-clause-agree : goal.walk-stream-requires-clause-agree
walk-stream-requires-clause-agree c =
    agree_held c.args.session.now c.args.player c.slot_of-at.result c.args.slots.now c.args.from.now c.args.received.now c.opening_clash-bad.result c.slot-other.result c.facts.ensures c.requires.held c.requires.clean c.requires.place c.requires.later
    c.slot_of-at.ensures (c.slot-other.ensures ∙ ap (slot c.args.slots.now) c.other_slot.ensures) c.opening_clash-bad.ensures

pub illegal_reveal-illegal-requires-clause-agree : goal.illegal_reveal-illegal-requires-clause-agree
illegal_reveal-illegal-requires-clause-agree c =
    agree_held c.args.session.now c.args.player c.slot_of-at.result c.args.slots.now c.args.from.now c.args.received.now c.opening_clash-bad.result c.slot-other.result c.facts.ensures c.requires.held c.requires.clean c.requires.place c.requires.later
    c.slot_of-at.ensures (c.slot-other.ensures ∙ ap (slot c.args.slots.now) c.other_slot.ensures) c.opening_clash-bad.ensures

pub returns-clause-held : goal.returns-clause-held
returns-clause-held c =
    walked_held c.args.session.now c.args.player c.slot_of-at.result c.args.slots.now c.args.received.now c.args.from.now c.walk-stream.result c.requires.held c.walk-stream.ensures.slots c.walk-stream.ensures.walked

pub returns-clause-offer : goal.returns-clause-offer
returns-clause-offer c =
    let held = walked_held c.args.session.now c.args.player c.slot_of-at.result c.args.slots.now c.args.received.now c.args.from.now c.walk-stream.result c.requires.held c.walk-stream.ensures.slots c.walk-stream.ensures.walked in
    held_answer c.args.session.now c.args.player c.slot_of-at.result c.args.slots.now c.args.from.now c.walk-stream.result c.args.received.now c.opening_clash-bad.result c.illegal_reveal-illegal.result c.lower_clash-clash.result c.slot-other.result c.answer_of.result _
    c.facts.ensures c.requires.held c.requires.clean c.requires.place c.requires.later c.slot_of-at.ensures held
    (c.slot-other.ensures ∙ ap (slot c.args.slots.now) c.other_slot.ensures) c.opening_clash-bad.ensures c.illegal_reveal-illegal.ensures c.lower_clash-clash.ensures
    (c.answer_of.ensures ∙ ap (λ (n : ℕ). new_answer c.lower_clash-clash.result (n == c.from-next.result)) c.place_of.ensures ∙ ap (λ (n : ℕ). new_answer c.lower_clash-clash.result (place_of c.args.session.now c.args.received.now.frame == n)) (c.from-next.ensures ∙ c.next.ensures))
