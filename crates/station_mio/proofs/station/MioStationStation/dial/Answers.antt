use Rattle.std.proofs.Common.{List, sym, subst}
use Rattle.std.proofs.Math.Logic.{∥∥₁_map}
use Rattle.socket_station.specs.Items.{Item}
use Rattle.station_mio.specs.Numbers.{AreUnused}
use Rattle.station_mio.specs.Telling.{Tells}
use Rattle.socket_station.specs.Items.{dial_item}
use Rattle.station_mio.specs.Nets.{has_room}
use Rattle.station_mio.proofs.Unused.{unused-dialled}
use Rattle.station_mio.proofs.Quiet.{quiet_dials}
use Rattle.station_mio.proofs.Told.{still_dial, tells_still}
use Rattle.station_mio.proofs.station.MioStationStation.dial.Goals as goal

pub invariant_of-self : goal.invariant_of-self
invariant_of-self g c =
    let old = c.args.self.now in
    let log = old.log.file in
    record {
      unused = subst (λ (x : List Item). AreUnused c.dial-dial.new.self.next x) (sym c.dial.ensures) (unused-dialled old.notes c.dial-dial.result c.args.player c.args.addr old.sockets.next c.dial-dial.new.self.next old.unused c.dial-dial.ensures.numbers);
      told = ∥∥₁_map old.told (λ t. subst (λ (x : List Item). Tells log old.log.begun c.dial-dial.new.self.asks x) (sym c.dial.ensures) (tells_still log old.log.begun old.sockets.asks c.dial-dial.new.self.asks old.notes (dial_item c.dial-dial.result c.args.player c.args.addr) (quiet_dials (has_room old.sockets) c.args.player c.args.addr c.dial-dial.result old.sockets c.dial-dial.new.self c.dial-dial.ensures.dials) (still_dial c.dial-dial.result c.args.player c.args.addr) t));
    }
