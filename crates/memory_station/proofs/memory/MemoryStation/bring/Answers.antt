use Rattle.std.proofs.Common.{nat_lt}
use Rattle.memory_station.proofs.Ties.{tied-bring}
use Rattle.memory_station.proofs.memory.MemoryStation.bring.Goals as goal

pub invariant_of-self : goal.invariant_of-self
invariant_of-self c =
    let b = c.self.inside in
    record { tied = tied-bring (nat_lt b.table.pieces 65536) b.book b.table c.bring.new.self c.args.socket c.args.piece c.self.invariant.tied c.bring.ensures.after; most = c.self.invariant.most }
