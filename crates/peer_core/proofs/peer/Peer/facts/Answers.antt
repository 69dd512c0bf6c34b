use Rattle.std.proofs.Common.{subst}
use Rattle.peer_core.specs.Views.{PeerState}
use Rattle.peer_core.specs.Standing.{IsStanding}
use Rattle.peer_core.proofs.Peers.{standing}
use Rattle.peer_core.proofs.peer.Peer.facts.Goals as goal

pub returns : goal.returns
returns c =
    let Is : PeerState → Type 0 = λ v. IsStanding v in
    subst Is c.self.view_is (standing _ _ _ _ _ _ _ _ _ c.facts.ensures c.self.invariant.0)
