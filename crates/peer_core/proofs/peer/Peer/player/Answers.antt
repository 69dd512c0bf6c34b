use Rattle.std.proofs.Common.{◌≡◌, ◌∙◌, ap, sym, subst, length, rules, arith, vec_len, ℕ}
use Rattle.peer_core.specs.Views.{PeerState, player_view}
use Rattle.definitions.specs.Held.{resolved_count}
use Rattle.peer_core.specs.declared.views.PlayerView.{PlayerView}
use Rattle.peer_core.proofs.OwnTracks.{own_tracks_reach}
use Rattle.peer_core.proofs.Peers.{player_me}
use Rattle.peer_core.proofs.peer.Peer.player.Goals as goal
use Rattle.grid_world.proofs.Reveals.{ahead_least}
use Rattle.definitions.specs.declared.world.Track.{Track}
use Rattle.grid_world.specs.Places.{reveals_below}

abbrev with_parts : ℕ → Track → ℕ → PlayerView
with_parts n t m = record { turns = n; track = t; next = m }

pub index-requires : goal.index-requires
index-requires c =
    let inv = c.self.invariant.0 in
    let few = own_tracks_reach c.self.inside.session c.self.inside.me (resolved_count c.self.inside.session c.self.inside.me c.self.inside.entries.items c.self.inside.me) c.self.inside.entries.items c.self.inside.tracks.items
    (ahead_least _ c.facts.ensures) inv.honest inv.tracks_are (omega arith) in
    let count : c.len-made.result ≡ length c.self.inside.frames.items = search rules in
    let turns : c.reveals_below-turns.result ≡ resolved_count c.self.inside.session c.self.inside.me c.self.inside.entries.items c.self.inside.me
    = c.reveals_below-turns.ensures ∙ ap (reveals_below c.self.inside.session) count ∙ sym inv.revealed in
    let tracks : vec_len c.self.inside.tracks ≡ length c.self.inside.tracks.items = search rules in
    omega arith

pub returns-then-player-self : goal.returns-then-player-self
returns-then-player-self c =
    let count : c.len-made.result ≡ length c.self.inside.frames.items = search rules in
    let Is : PeerState → Type 0 = λ v. with_parts c.reveals_below-turns.result c.index.result.now c.len-made.result ≡ player_view v.game v.me v.entries v.me in
    let mine : PeerState → Type 0 = λ v. c.args.player ≡ v.me in
    let me : c.args.player ≡ c.args.self.now.me = subst mine c.self.view_is c.if-player-self.true in
    subst Is c.self.view_is (player_me _ _ _ _ _ _ _ _ _ _ _ _ c.facts.ensures c.self.invariant.0 count c.reveals_below-turns.ensures c.index.ensures) ∙
    ap (λ q. player_view c.args.self.now.game c.args.self.now.me c.args.self.now.entries q) (sym me)
