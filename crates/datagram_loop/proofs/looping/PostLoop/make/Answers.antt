use Rattle.datagram_loop.specs.States.{LoopState}
use Rattle.datagram_loop.proofs.Fits.{fit_grown}
use Rattle.datagram_loop.proofs.Making.{makes_moves}
use Rattle.datagram_loop.proofs.looping.PostLoop.make.Goals as goal

pub invariant_of-self : goal.invariant_of-self
invariant_of-self g c =
    let b = c.self.inside in
    let l : LoopState = record { peer = b.peer; roster = b.roster; partners = b.partners.items; kept = b.kept; synced = b.synced; phase = b.phase; drops = b.drops } in
    fit_grown l b.writer c.make_all.new.peer c.make_all.ensures.adds.more c.make_all.ensures.adds.state c.self.invariant

pub returns : goal.returns
returns g c = makes_moves _ _ c.make_all.result _ c.args.self.now c.make_all.new.peer c.self.view_is c.make_all.ensures
