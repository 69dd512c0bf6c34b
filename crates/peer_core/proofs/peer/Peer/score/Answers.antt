use Rattle.std.proofs.Common.{◌≡◌, subst, ◌∙◌, arith}
use Rattle.peer_core.specs.Views.{PeerState}
use Rattle.peer_core.specs.Scoring.{IsScoreOfAll, settled_score}
use Rattle.peer_core.proofs.Counted.{settled_of_all}
use Rattle.grid_world.proofs.Reveals.{ahead_least}
use Rattle.peer_core.proofs.peer.Peer.score.Goals as goal

pub score-requires : goal.score-requires
score-requires c = let inv = c.self.invariant.0 in let player = inv.player in let counted = c.self.invariant.2 in omega (arith, player, counted.players)

pub returns-clause-exact : goal.returns-clause-exact
returns-clause-exact c =
    let Is : PeerState → Type 0 = λ v. c.score.result ≡ settled_score v.game v.me v.entries in
    let counted = c.self.invariant.2 in
    subst Is c.self.view_is (c.score.ensures ∙ counted.score)

pub returns-clause-of_all : goal.returns-clause-of_all
returns-clause-of_all c =
    let Is : PeerState → Type 0 = λ v. IsScoreOfAll v.game v.me v.entries c.score.result in
    let inv = c.self.invariant.0 in
    let counted = c.self.invariant.2 in
    subst Is c.self.view_is (λ all goes.
    c.score.ensures ∙ counted.score ∙ settled_of_all c.self.inside.session c.self.inside.me c.self.inside.entries.items all (ahead_least c.self.inside.session c.facts.ensures) inv.honest inv.player goes)
