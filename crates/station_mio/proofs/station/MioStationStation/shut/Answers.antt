use Rattle.std.proofs.Common.{List, ap, sym, subst}
use Rattle.std.proofs.Math.Logic.{∥∥₁_map}
use Rattle.socket_station.specs.Items.{Item}
use Rattle.station_mio.specs.Numbers.{AreUnused}
use Rattle.station_mio.specs.Telling.{Tells}
use Rattle.socket_station.specs.Items.{Shut}
use Rattle.machine_host.specs.Asks.{Ask}
use Rattle.station_mio.specs.Rows.{stand_in}
use Rattle.station_mio.specs.Nets.{Net}
use Rattle.station_mio.proofs.Unused.{unused-shut}
use Rattle.station_mio.proofs.Quiet.{Quiet, quiet_closing_at}
use Rattle.station_mio.proofs.Told.{still_shut, tells_still}
use Rattle.station_mio.proofs.station.MioStationStation.shut.Goals as goal

pub invariant_of-self : goal.invariant_of-self
invariant_of-self g c =
    let old = c.args.self.now in
    let log = old.log.file in
    record {
      unused = subst (λ (x : List Item). AreUnused c.shut.new.self.next x) (sym c.shut-2.ensures) (unused-shut old.notes c.args.socket old.sockets.next c.shut.new.self.next old.unused c.requires.is_open c.shut.ensures.next);
      told = ∥∥₁_map old.told (λ t. subst (λ (x : List Item). Tells log old.log.begun c.shut.new.self.asks x) (sym c.shut-2.ensures) (tells_still log old.log.begun old.sockets.asks c.shut.new.self.asks old.notes (Shut c.args.socket) (subst (λ (x : List Ask). Quiet old.sockets.asks x) (sym (ap (λ (n : Net). n.asks) c.shut.ensures.shuts)) (quiet_closing_at (stand_in c.args.socket old.sockets.stands) old.sockets.asks)) (still_shut c.args.socket) t));
    }
