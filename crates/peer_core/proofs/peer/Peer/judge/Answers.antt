use Rattle.std.proofs.Common.{◌≡◌, sym, subst, true}
use Rattle.definitions.specs.declared.world.Track.{Track}
use Rattle.definitions.specs.World.{is_open}
use Rattle.definitions.specs.Honest.{chosen_track}
use Rattle.peer_core.specs.Views.{PeerState}
use Rattle.peer_core.proofs.OwnTracks.{chosen_open}
use Rattle.peer_core.proofs.peer.Peer.judge.Goals as goal

pub legal-requires-clause-track : goal.legal-requires-clause-track
legal-requires-clause-track c =
    let inv = c.self.invariant.0 in
    let At : PeerState → Type 0 = λ v. c.args.track.now ≡ chosen_track v.game v.me v.entries in
    let here : c.args.track.now ≡ chosen_track c.self.inside.session c.self.inside.me c.self.inside.entries.items = subst At (sym c.self.view_is) c.requires in
    let Opens : Track → Type 0 = λ t. is_open c.self.inside.session.grid t.at ≡ true in
    subst Opens (sym here) (chosen_open _ _ _ c.facts.ensures inv.player inv.honest)
