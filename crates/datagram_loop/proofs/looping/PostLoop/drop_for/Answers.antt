use Rattle.datagram_loop.specs.States.{LoopState}
use Rattle.datagram_loop.proofs.Fits.{fit_dropped}
use Rattle.datagram_loop.proofs.looping.PostLoop.drop_for.Goals as goal

pub invariant_of-self : goal.invariant_of-self
invariant_of-self c =
    let b = c.self.inside in
    let l : LoopState = record { peer = b.peer; roster = b.roster; partners = b.partners.items; kept = b.kept; synced = b.synced; phase = b.phase; drops = b.drops } in
    fit_dropped l b.writer c.count.new.drops c.self.invariant
