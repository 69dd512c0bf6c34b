use Rattle.std.proofs.Common.{◌≡◌, sym, subst, length, rules}
use Rattle.peer_core.specs.Views.{PeerState, choice_of}
use Rattle.peer_core.proofs.Peers.{choice_is}
use Rattle.peer_core.proofs.peer.Peer.choice.Goals as goal

pub returns : goal.returns
returns c =
    let inv = c.self.invariant.0 in
    let n : c.len-turn.result ≡ length c.self.inside.openings.items = search rules in
    let Is : PeerState → Type 0 = λ v. record { turn = c.len-turn.result; track = c.index.result.now } ≡ choice_of v.game v.me v.entries in
    subst Is c.self.view_is (sym (choice_is c.self.inside.session c.self.inside.me c.self.inside.entries.items _ _ _ _ inv.openings_are inv.tracks_are n c.index.ensures))
