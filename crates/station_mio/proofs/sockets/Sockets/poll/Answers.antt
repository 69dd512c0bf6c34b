use Rattle.std.proofs.Common.{ℕ, subst}
use Rattle.station_mio.specs.Numbers.{OpensBetween}
use Rattle.station_mio.proofs.Opening.{lists_open}
use Rattle.station_mio.proofs.sockets.Sockets.poll.Goals as goal

pub returns-in-Ok-clause-opens : goal.returns-in-Ok-clause-opens
returns-in-Ok-clause-opens g c =
    let new = c.list.new in
    subst (λ (n : ℕ). OpensBetween n new.self.next new.ready) c.wait.ensures.next
    (lists_open c.as_slice.result.now new.ready c.wait.new.self new.self c.list.ensures)
