use Rattle.std.proofs.Common.{List, sym, subst}
use Rattle.std.proofs.Math.Logic.{∥∥₁_map}
use Rattle.socket_station.specs.Items.{Item}
use Rattle.station_mio.specs.Numbers.{AreUnused}
use Rattle.station_mio.specs.Telling.{Tells}
use Rattle.station_mio.proofs.Unused.{unused-read}
use Rattle.station_mio.proofs.Told.{tells_read}
use Rattle.station_mio.proofs.station.MioStationStation.read.Goals as goal

pub invariant_of-self : goal.invariant_of-self
invariant_of-self g c =
    let old = c.args.self.now in
    let log = old.log.file in
    record {
      unused = subst (λ (x : List Item). AreUnused c.read-read.new.self.next x) (sym c.read.ensures) (unused-read old.notes c.args.socket old.sockets.next c.read-read.new.self.next c.read-read.result c.read-read.new.buf old.unused c.requires.is_open c.read-read.ensures.next);
      told = ∥∥₁_map old.told (λ t. subst (λ (x : List Item). Tells log old.log.begun c.read-read.new.self.asks x) (sym c.read.ensures) (tells_read log old.log.begun c.args.socket old.sockets.stands old.sockets.asks c.read-read.new.self.asks old.notes c.read-read.result c.read-read.new.buf c.read-read.ensures.reads.asked t));
    }
