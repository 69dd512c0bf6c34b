use Rattle.std.proofs.Common.{ap, sym, ◌∙◌}
use Rattle.peer_window.specs.Windows.{Seen}
use Rattle.peer_window.proofs.Lookups.{count_places}
use Rattle.peer_window.proofs.window.Window.next.Goals as goal

pub returns : goal.returns
returns c = c.next.ensures ∙ count_places c.self.inside.player c.self.inside.stream.commits c.self.inside.stream.resolved c.self.inside.slots.items c.args.self.now.known (ap (λ (w : Seen). w.known) (sym c.self.view_is)) c.self.invariant.slots
