use Rattle.std.proofs.Common.{◌≡◌, ◌∙◌, sym, subst, length, rules, ap}
use Rattle.definitions.specs.Held.{resolved_count}
use Rattle.grid_world.specs.Places.{reveals_below}
use Rattle.peer_core.specs.Views.{PeerState}
use Rattle.peer_core.proofs.peer.Peer.turn.Goals as goal

pub returns : goal.returns
returns c =
    let n : c.len.result ≡ length c.self.inside.frames.items = search rules in
    let Is : PeerState → Type 0 = λ v. c.reveals_below.result ≡ resolved_count v.game v.me v.entries v.me in
    subst Is c.self.view_is (c.reveals_below.ensures ∙ ap (reveals_below c.self.inside.session) n ∙ sym c.self.invariant.0.revealed)
