use Rattle.memory_station.proofs.Ties.{tied-uncounted}
use Rattle.memory_station.proofs.memory.MemoryStation.most.Goals as goal

pub invariant_of-self : goal.invariant_of-self
invariant_of-self c =
    let b = c.self.inside in
    record { tied = tied-uncounted b.book b.table c.count_writes.new.self c.self.invariant.tied c.count_writes.ensures; most = c.requires }
