use Rattle.std.proofs.Common.{List, ap, sym, subst}
use Rattle.std.proofs.Math.Logic.{∥∥₁_map}
use Rattle.socket_station.specs.Items.{Item}
use Rattle.station_mio.specs.Nets.{Net}
use Rattle.station_mio.specs.Numbers.{AreUnused}
use Rattle.station_mio.proofs.Unused.{unused-kept}
use Rattle.station_mio.proofs.Told.{tells_kept_as}
use Rattle.station_mio.proofs.station.MioStationStation.keep.Goals as goal

pub invariant_of-self : goal.invariant_of-self
invariant_of-self g c =
    let old = c.args.self.now in
    let next = ap (λ (n : Net). n.next) c.append.ensures.same in
    record {
      unused = subst (λ (x : List Item). AreUnused c.append.new.self.next x) (sym c.keep.ensures) (unused-kept old.notes c.did_by-did.result c.args.bytes.now old.sockets.next c.append.new.self.next old.unused next);
      told = ∥∥₁_map old.told (tells_kept_as c.args.bytes.now old.log c.append.new.log c.append.result c.did_by-did.result old.sockets c.append.new.self old.notes c.keep.new.self (c.append.ensures.asked, c.append.ensures.same) c.append.ensures.stands c.did_by-did.ensures c.keep.ensures);
    }
