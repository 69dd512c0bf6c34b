use Rattle.std.proofs.Common.{◌≡◌, ap, ◌∙◌}
use Rattle.socket_station.specs.declared.answers.Standing.TheVariants.{Open}
use Rattle.socket_station.specs.Standings.{standing_in}
use Rattle.memory_station.specs.HeldStations.{HeldStation}
use Rattle.memory_station.proofs.Ties.{tied-shut}
use Rattle.memory_station.proofs.memory.MemoryStationStation.shut.Goals as goal

pub invariant_of-self : goal.invariant_of-self
invariant_of-self c =
    let b = c.self.inside in
    let o : standing_in b.book.history c.args.socket ≡ Open = ap (λ (k : HeldStation). standing_in k.book.history c.args.socket) c.self.view_is ∙ c.requires in
    record { tied = tied-shut b.book c.shut.new.self b.table c.mark.new.self c.args.socket c.self.invariant.tied o c.shut.ensures c.mark.ensures; most = c.self.invariant.most }
