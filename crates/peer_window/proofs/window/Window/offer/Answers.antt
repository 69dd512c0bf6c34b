use Rattle.std.proofs.Common.{List, Option, Some, length, set, ap, sym, ◌∙◌, arith, ◌+◌, ℕ}
use Rattle.definitions.specs.Answers.{is_beyond}
use Rattle.peer_window.specs.declared.received.Received.{Received}
use Rattle.peer_window.specs.Slots.{slot_of, slot}
use Rattle.peer_window.specs.Windows.{Seen}
use Rattle.peer_window.proofs.Offered.{offer_far, offer_frames, offer_new, offer_rival, offer_same, opened, others_agree, rival_window, within_slots}
use Rattle.peer_window.proofs.window.Window.offer.Goals as goal

pub returns-then-is_beyond-clause-answer : goal.returns-then-is_beyond-clause-answer
returns-then-is_beyond-clause-answer c =
    let w = c.self.inside in
    let o = opened c.args.session.now c.args.self.now w.player w.slots.items w.rival w.closed w.stream c.args.entry c.self.view_is c.requires.window c.requires.open_still c.requires.later c.self.invariant in
    offer_far c.args.session.now c.args.self.now w.slots.items w.rival w.closed w.stream (record { entry = c.args.entry; frame = c.args.frame.now }) c.is_beyond.result o (c.is_beyond.ensures ∙ ap (λ (n : ℕ). is_beyond c.args.session.now n c.args.frame.now) c.next.ensures) c.if-is_beyond.true

pub returns-then-is_frame-clause-answer : goal.returns-then-is_frame-clause-answer
returns-then-is_frame-clause-answer c =
    let w = c.self.inside in
    let o = opened c.args.session.now c.args.self.now w.player w.slots.items w.rival w.closed w.stream c.args.entry c.self.view_is c.requires.window c.requires.open_still c.requires.later c.self.invariant in
    offer_same c.args.session.now c.args.self.now w.slots.items w.rival w.closed w.stream (record { entry = c.args.entry; frame = c.args.frame.now }) c.in-Some.held c.slot_of-at.result c.is_beyond.result c.is_frame.result c.facts.ensures o
    c.slot_of-at.ensures (c.is_beyond.ensures ∙ ap (λ (n : ℕ). is_beyond c.args.session.now n c.args.frame.now) c.next.ensures) c.if-is_beyond.false (c.in-Some.ensures ∙ ap (λ (xs : List (Option Received)). slot xs c.slot_of-at.result) c.deref.ensures.value) c.is_frame.ensures c.if-is_frame.true

pub returns-in-None-clause-answer : goal.returns-in-None-clause-answer
returns-in-None-clause-answer c =
    let w = c.self.inside in
    let o = opened c.args.session.now c.args.self.now w.player w.slots.items w.rival w.closed w.stream c.args.entry c.self.view_is c.requires.window c.requires.open_still c.requires.later c.self.invariant in
    offer_new c.args.session.now c.args.self.now w.slots.items c.hold-held.new.slots w.rival w.closed w.stream (record { entry = c.args.entry; frame = c.args.frame.now }) c.slot_of-at.result w.player c.is_beyond.result c.hold-held.result.offer c.facts.ensures o
    c.slot_of-at.ensures (c.is_beyond.ensures ∙ ap (λ (n : ℕ). is_beyond c.args.session.now n c.args.frame.now) c.next.ensures) c.if-is_beyond.false (c.in-None.ensures ∙ ap (λ (xs : List (Option Received)). slot xs c.slot_of-at.result) c.deref.ensures.value) (ap (λ (x : Seen). x.player) c.self.view_is)
    (c.hold-held.ensures.slots ∙ ap (λ (xs : List (Option Received)). set xs (slot_of c.args.frame.now) (Some (record { entry = c.args.entry; frame = c.args.frame.now }))) c.deref_mut.ensures.value) c.hold-held.ensures.offer

pub returns-in-None-clause-frames : goal.returns-in-None-clause-frames
returns-in-None-clause-frames c =
    let w = c.self.inside in
    let o = opened c.args.session.now c.args.self.now w.player w.slots.items w.rival w.closed w.stream c.args.entry c.self.view_is c.requires.window c.requires.open_still c.requires.later c.self.invariant in
    offer_frames c.args.session.now c.args.self.now w.slots.items c.hold-held.new.slots w.rival w.closed w.stream (record { entry = c.args.entry; frame = c.args.frame.now }) c.slot_of-at.result w.slots.len c.is_beyond.result c.hold-held.result.offer _ _ c.facts.ensures o
    (sym c.deref.ensures.len ∙ ap length c.deref.ensures.value) c.slot_of-at.ensures (c.is_beyond.ensures ∙ ap (λ (n : ℕ). is_beyond c.args.session.now n c.args.frame.now) c.next.ensures) c.if-is_beyond.false (c.in-None.ensures ∙ ap (λ (xs : List (Option Received)). slot xs c.slot_of-at.result) c.deref.ensures.value)
    (c.hold-held.ensures.slots ∙ ap (λ (xs : List (Option Received)). set xs (slot_of c.args.frame.now) (Some (record { entry = c.args.entry; frame = c.args.frame.now }))) c.deref_mut.ensures.value) c.hold-held.ensures.offer

pub returns-else-is_frame-clause-answer : goal.returns-else-is_frame-clause-answer
returns-else-is_frame-clause-answer c =
    let w = c.self.inside in
    let o = opened c.args.session.now c.args.self.now w.player w.slots.items w.rival w.closed w.stream c.args.entry c.self.view_is c.requires.window c.requires.open_still c.requires.later c.self.invariant in
    offer_rival c.args.session.now c.args.self.now w.slots.items w.rival w.closed w.stream (record { entry = c.args.entry; frame = c.args.frame.now }) c.in-Some.held c.slot_of-at.result w.player c.is_beyond.result c.is_frame.result c.rival_clash.result c.slot-other.result
    c.facts.ensures o c.requires.player
    c.slot_of-at.ensures (c.is_beyond.ensures ∙ ap (λ (n : ℕ). is_beyond c.args.session.now n c.args.frame.now) c.next.ensures) c.if-is_beyond.false (c.in-Some.ensures ∙ ap (λ (xs : List (Option Received)). slot xs c.slot_of-at.result) c.deref.ensures.value) c.is_frame.ensures c.if-is_frame.false
    (c.slot-other.ensures ∙ ap (λ (xs : List (Option Received)). slot xs c.other_slot.result) c.deref-in-Some.ensures.value ∙ ap (slot w.slots.items) c.other_slot.ensures) (ap (λ (x : Seen). x.player) c.self.view_is) c.rival_clash.ensures

pub returns-else-is_frame-clause-window : goal.returns-else-is_frame-clause-window
returns-else-is_frame-clause-window c =
    let w = c.self.inside in
    let o = opened c.args.session.now c.args.self.now w.player w.slots.items w.rival w.closed w.stream c.args.entry c.self.view_is c.requires.window c.requires.open_still c.requires.later c.self.invariant in
    rival_window c.args.session.now c.args.self.now w.player w.slots.items w.rival w.closed w.stream (record { entry = c.args.entry; frame = c.args.frame.now }) c.in-Some.held c.slot_of-at.result c.facts.ensures o (ap (λ (x : Seen). x.player) c.self.view_is)
    c.slot_of-at.ensures (c.in-Some.ensures ∙ ap (λ (xs : List (Option Received)). slot xs c.slot_of-at.result) c.deref.ensures.value)

pub hold-held-requires-clause-place : goal.hold-held-requires-clause-place
hold-held-requires-clause-place c =
    let w = c.self.inside in
    let o = opened c.args.session.now c.args.self.now w.player w.slots.items w.rival w.closed w.stream c.args.entry c.self.view_is c.requires.window c.requires.open_still c.requires.later c.self.invariant in
    let fits = within_slots c.args.session.now (w.stream.commits + w.stream.resolved) w.slots.items c.args.frame.now c.is_beyond.result o.held.places (c.is_beyond.ensures ∙ ap (λ (n : ℕ). is_beyond c.args.session.now n c.args.frame.now) c.next.ensures) c.if-is_beyond.false in
    let same = ap length c.deref_mut.ensures.value in
    omega arith

pub rival_clash-requires : goal.rival_clash-requires
rival_clash-requires c =
    let w = c.self.inside in
    let still = opened c.args.session.now c.args.self.now w.player w.slots.items w.rival w.closed w.stream c.args.entry c.self.view_is c.requires.window c.requires.open_still c.requires.later c.self.invariant in
    record {
      agree = λ o.
          others_agree c.args.session.now c.args.self.now w.slots.items w.rival w.closed w.stream (record { entry = c.args.entry; frame = c.args.frame.now }) c.in-Some.held c.slot_of-at.result c.slot-other.result o c.facts.ensures still c.slot_of-at.ensures
          (c.in-Some.ensures ∙ ap (λ (xs : List (Option Received)). slot xs c.slot_of-at.result) c.deref.ensures.value)
          (c.slot-other.ensures ∙ ap (λ (xs : List (Option Received)). slot xs c.other_slot.result) c.deref-in-Some.ensures.value ∙ ap (slot w.slots.items) c.other_slot.ensures);
    }
