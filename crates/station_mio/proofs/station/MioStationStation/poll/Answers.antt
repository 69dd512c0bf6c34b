use Rattle.std.proofs.Common.{List, [], ◌∷◌, ◌++◌, ◌∙◌, ap, sym, subst}
use Rattle.std.proofs.Math.Logic.{∥∥₁_map}
use Rattle.socket_station.specs.Items.{Item}
use Rattle.station_mio.specs.Numbers.{AreUnused}
use Rattle.station_mio.specs.Telling.{Tells}
use Rattle.socket_station.specs.declared.answers.Ready.{Ready}
use Rattle.socket_station.specs.Items.{poll_item}
use Rattle.station_mio.proofs.Unused.{polls-new, unused-polled}
use Rattle.station_mio.proofs.Quiet.{quiet_polls}
use Rattle.station_mio.proofs.Told.{still_poll, tells_still}
use Rattle.station_mio.proofs.station.MioStationStation.poll.Goals as goal

pub invariant_of-self : goal.invariant_of-self
invariant_of-self g c =
    let old = c.args.self.now in
    let log = old.log.file in
    record {
      unused = subst (λ (x : List Item). AreUnused c.poll-did.new.self.next x) (sym (c.poll.ensures ∙ ap (λ (r : List Ready). old.notes ++ poll_item c.poll-did.result r ∷ []) c.as_slice.ensures.items)) (unused-polled old.notes c.poll-did.result c.poll-did.new.ready old.sockets.next c.poll-did.new.self.next old.unused c.poll-did.ensures.opens);
      told = ∥∥₁_map old.told (λ t. subst (λ (x : List Item). Tells log old.log.begun c.poll-did.new.self.asks x) (sym (c.poll.ensures ∙ ap (λ (r : List Ready). old.notes ++ poll_item c.poll-did.result r ∷ []) c.as_slice.ensures.items)) (tells_still log old.log.begun old.sockets.asks c.poll-did.new.self.asks old.notes (poll_item c.poll-did.result c.poll-did.new.ready) (quiet_polls c.poll-did.result c.poll-did.new.ready old.sockets c.poll-did.new.self c.poll-did.ensures.polls) (still_poll c.poll-did.result c.poll-did.new.ready) t));
    }

pub returns-clause-fresh : goal.returns-clause-fresh
returns-clause-fresh g c =
    let old = c.args.self.now in
    let new = c.poll-did.new in
    polls-new old.notes c.poll-did.result new.ready old.sockets.next new.self.next old.unused c.poll-did.ensures.opens
