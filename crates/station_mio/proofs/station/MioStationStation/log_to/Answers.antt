use Rattle.std.proofs.Common.{List, ap, sym, subst}
use Rattle.std.proofs.Math.Logic.{∥∥₁_map}
use Rattle.socket_station.specs.Items.{Item}
use Rattle.station_mio.specs.Nets.{Net}
use Rattle.station_mio.specs.Numbers.{AreUnused}
use Rattle.station_mio.proofs.Unused.{unused-logged}
use Rattle.station_mio.proofs.Told.{tells_begun_as}
use Rattle.station_mio.proofs.station.MioStationStation.log_to.Goals as goal

pub invariant_of-self : goal.invariant_of-self
invariant_of-self g c =
    let old = c.args.self.now in
    let next = ap (λ (n : Net). n.next) c.begin.ensures.same in
    record {
      unused = subst (λ (x : List Item). AreUnused c.begin.new.self.next x) (sym c.log_to.ensures) (unused-logged old.notes c.did_by-did.result c.args.name.now old.sockets.next c.begin.new.self.next old.unused next);
      told = ∥∥₁_map old.told (tells_begun_as c.args.name.now old.log c.begin.new.log c.begin.result c.did_by-did.result old.sockets c.begin.new.self old.notes c.log_to.new.self (c.begin.ensures.asked, c.begin.ensures.same) c.begin.ensures.stands c.log_to.ensures);
    }
