use Rattle.std.proofs.Common.{◌≡◌, ap, ◌∙◌}
use Rattle.socket_station.specs.declared.answers.Standing.TheVariants.{Open}
use Rattle.socket_station.specs.Items.{write_item}
use Rattle.socket_station.specs.Standings.{standing_in}
use Rattle.history_book.specs.Books.{with_item, given_by}
use Rattle.history_book.specs.HeldBooks.{HeldBook}
use Rattle.memory_station.specs.HeldRows.{HeldTable}
use Rattle.memory_station.specs.HeldStations.{HeldStation}
use Rattle.memory_station.proofs.Ties.{tied-same, moves-write, open-row}
use Rattle.memory_station.proofs.memory.MemoryStationStation.write.Goals as goal

pub invariant_of-self : goal.invariant_of-self
invariant_of-self c =
    let b = c.self.inside in
    let s = c.args.socket in
    let item = write_item s c.write-write.result c.args.bytes.now in
    let n = given_by c.write-write.result in
    let is = c.write.ensures ∙ ap (λ (k : HeldBook). with_item item n k) c.begin-goes.ensures.book in
    let o : standing_in b.book.history s ≡ Open = ap (λ (k : HeldStation). standing_in k.book.history s) c.self.view_is ∙ c.requires.is_open in
    record {
      tied = tied-same b.book c.write.new.self b.table c.write-write.new.self item b.plan 0 c.write_need-need.result n c.self.invariant.tied is
          (moves-write b.most s c.write-write.result c.args.bytes.now b.table c.write-write.new.self (open-row b.book b.table s c.self.invariant.tied o) c.write-write.ensures.after)
          (ap (λ (t : HeldTable). t.row_room) c.write-write.ensures.after) (ap (λ (t : HeldTable). t.brought) c.write-write.ensures.after);
      most = c.self.invariant.most;
    }
