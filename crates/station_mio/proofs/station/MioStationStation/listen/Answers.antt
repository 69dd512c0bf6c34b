use Rattle.std.proofs.Common.{List, ap, sym, subst}
use Rattle.std.proofs.Math.Logic.{∥∥₁_map}
use Rattle.socket_station.specs.Items.{Item}
use Rattle.station_mio.specs.Numbers.{AreUnused}
use Rattle.station_mio.specs.Telling.{Tells}
use Rattle.socket_station.specs.Items.{listen_item}
use Rattle.station_mio.specs.Nets.{Net}
use Rattle.station_mio.proofs.Unused.{unused-listened}
use Rattle.station_mio.proofs.Quiet.{quiet_listens}
use Rattle.station_mio.proofs.Told.{still_listen, tells_still}
use Rattle.station_mio.proofs.station.MioStationStation.listen.Goals as goal

pub invariant_of-self : goal.invariant_of-self
invariant_of-self g c =
    let old = c.args.self.now in
    let log = old.log.file in
    record {
      unused = subst (λ (x : List Item). AreUnused c.listen.new.self.next x) (sym c.listen-2.ensures) (unused-listened old.notes c.did_of-did.result c.args.addr old.sockets.next c.listen.new.self.next old.unused (ap (λ (n : Net). n.next) c.listen.ensures.same));
      told = ∥∥₁_map old.told (λ t. subst (λ (x : List Item). Tells log old.log.begun c.listen.new.self.asks x) (sym c.listen-2.ensures) (tells_still log old.log.begun old.sockets.asks c.listen.new.self.asks old.notes (listen_item c.did_of-did.result c.args.addr) (quiet_listens c.args.addr c.listen.result old.sockets c.listen.new.self c.listen.ensures) (still_listen c.did_of-did.result c.args.addr) t));
    }
