use Rattle.memory_station.proofs.Ties.{tied-socket}
use Rattle.memory_station.proofs.memory.MemoryStation.bring_socket.Goals as goal

pub invariant_of-self : goal.invariant_of-self
invariant_of-self c =
    let b = c.self.inside in
    record { tied = tied-socket b.book b.table c.bring_socket.new.self c.bring_socket.result c.self.invariant.tied c.bring_socket.ensures.full c.bring_socket.ensures.none c.bring_socket.ensures.some; most = c.self.invariant.most }
