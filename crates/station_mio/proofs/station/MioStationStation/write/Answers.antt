use Rattle.std.proofs.Common.{List, sym, subst}
use Rattle.std.proofs.Math.Logic.{∥∥₁_map}
use Rattle.socket_station.specs.Items.{Item}
use Rattle.station_mio.specs.Numbers.{AreUnused}
use Rattle.station_mio.specs.Telling.{Tells}
use Rattle.station_mio.proofs.Unused.{unused-written}
use Rattle.station_mio.proofs.Told.{tells_write}
use Rattle.station_mio.proofs.station.MioStationStation.write.Goals as goal

pub invariant_of-self : goal.invariant_of-self
invariant_of-self g c =
    let old = c.args.self.now in
    let log = old.log.file in
    record {
      unused = subst (λ (x : List Item). AreUnused c.write-write.new.self.next x) (sym c.write.ensures) (unused-written old.notes c.args.socket old.sockets.next c.write-write.new.self.next c.write-write.result c.args.bytes.now old.unused c.requires.is_open c.write-write.ensures.next);
      told = ∥∥₁_map old.told (λ t. subst (λ (x : List Item). Tells log old.log.begun c.write-write.new.self.asks x) (sym c.write.ensures) (tells_write log old.log.begun c.args.socket old.sockets.stands old.sockets.asks c.write-write.new.self.asks old.notes c.write-write.result c.args.bytes.now c.write-write.ensures.writes.asked t));
    }
