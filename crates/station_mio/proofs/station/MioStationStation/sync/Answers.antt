use Rattle.std.proofs.Common.{List, ap, sym, subst}
use Rattle.std.proofs.Math.Logic.{∥∥₁_map}
use Rattle.socket_station.specs.Items.{Item}
use Rattle.station_mio.specs.Nets.{Net}
use Rattle.station_mio.specs.Numbers.{AreUnused}
use Rattle.station_mio.proofs.Unused.{unused-synced}
use Rattle.station_mio.proofs.Told.{tells_synced_as}
use Rattle.station_mio.proofs.station.MioStationStation.sync.Goals as goal

pub invariant_of-self : goal.invariant_of-self
invariant_of-self g c =
    let old = c.args.self.now in
    let next = ap (λ (n : Net). n.next) c.sync.ensures.same in
    record {
      unused = subst (λ (x : List Item). AreUnused c.sync.new.self.next x) (sym c.sync-2.ensures) (unused-synced old.notes c.did_by-did.result old.sockets.next c.sync.new.self.next old.unused next);
      told = ∥∥₁_map old.told (tells_synced_as old.log c.sync.new.log c.sync.result c.did_by-did.result old.sockets c.sync.new.self old.notes c.sync-2.new.self (c.sync.ensures.asked, c.sync.ensures.same) c.sync.ensures.stands c.did_by-did.ensures c.sync-2.ensures);
    }
