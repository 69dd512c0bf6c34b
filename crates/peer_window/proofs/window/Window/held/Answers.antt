use Rattle.std.proofs.Common.{List, Option, ap, arith, sym, ◌∙◌}
use Rattle.peer_window.specs.declared.received.Received.{Received}
use Rattle.peer_window.specs.Slots.{slot}
use Rattle.peer_window.specs.Windows.{Seen}
use Rattle.peer_window.proofs.Lookups.{never_reveal, no_digest, the_digest}
use Rattle.peer_window.proofs.window.Window.held.Goals as goal

pub returns-then-turn-self : goal.returns-then-turn-self
returns-then-turn-self c =
    no_digest c.self.inside.player c.self.inside.stream.commits c.self.inside.stream.resolved c.args.turn c.self.inside.slots.items c.args.self.now.known (ap (λ (w : Seen). w.known) (sym c.self.view_is)) c.self.invariant.slots (omega arith)

pub returns-in-Commit : goal.returns-in-Commit
returns-in-Commit c =
    the_digest c.self.inside.player c.self.inside.stream.commits c.self.inside.stream.resolved c.args.turn c.commitment_slot.result c.in-Commit.player c.in-Commit.turn c.self.inside.slots.items c.args.self.now.known c.in-Some.received c.in-Commit.digest
    (ap (λ (w : Seen). w.known) (sym c.self.view_is)) c.self.invariant.slots c.commitment_slot.ensures (omega arith) (c.in-Some.ensures ∙ ap (λ (xs : List (Option Received)). slot xs c.commitment_slot.result) c.deref.ensures.value) c.in-Commit.is

pub returns-in-Reveal : goal.returns-in-Reveal
returns-in-Reveal c =
    never_reveal c.self.inside.player c.self.inside.stream.commits c.self.inside.stream.resolved c.args.turn c.commitment_slot.result c.in-Reveal.player c.in-Reveal.turn c.self.inside.slots.items c.in-Some.received c.in-Reveal.mv c.in-Reveal.nonce
    c.self.invariant.slots c.commitment_slot.ensures (c.in-Some.ensures ∙ ap (λ (xs : List (Option Received)). slot xs c.commitment_slot.result) c.deref.ensures.value) c.in-Reveal.is
