use Rattle.memory_station.specs.HeldRows.{seeming}
use Rattle.memory_station.proofs.Closings.{keeps-seeming}
use Rattle.memory_station.proofs.Ties.{tied-at}
use Rattle.memory_station.proofs.memory.MemoryStation.seem_ready.Goals as goal

pub invariant_of-self : goal.invariant_of-self
invariant_of-self c =
    let b = c.self.inside in
    record { tied = tied-at b.book b.table c.mark.new.self c.args.socket seeming c.self.invariant.tied keeps-seeming c.mark.ensures; most = c.self.invariant.most }
