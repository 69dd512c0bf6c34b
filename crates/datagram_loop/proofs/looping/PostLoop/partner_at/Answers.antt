use Rattle.std.proofs.Common.{subst, sym, ap, ◌<◌, arith, length}
use Rattle.definitions.specs.World.{players_of}
use Rattle.post_rules.specs.declared.partners.Partner.{Partner}
use Rattle.datagram_loop.specs.States.{LoopState}
use Rattle.datagram_loop.proofs.Sent.{known_at}
use Rattle.datagram_loop.proofs.looping.PostLoop.partner_at.Goals as goal

pub returns-clause-known : goal.returns-clause-known
returns-clause-known c =
    let r = c.requires in
    let a = ap (λ (l : LoopState). length l.partners) c.self.view_is in
    subst (λ (l : LoopState). c.index.result.now.link.player < players_of l.peer.game) c.self.view_is
    (subst (λ (p : Partner). p.link.player < players_of c.self.inside.peer.game) (sym c.index.ensures)
    (known_at (players_of c.self.inside.peer.game) c.self.inside.partners.items c.args.place c.index.result.now c.self.invariant.partners (omega (arith, r, a))))
