use Rattle.std.proofs.Common.{◌≡◌, ap, ◌∙◌}
use Rattle.socket_station.specs.declared.answers.Standing.TheVariants.{Open}
use Rattle.socket_station.specs.Items.{read_item}
use Rattle.socket_station.specs.Standings.{standing_in}
use Rattle.history_book.specs.Books.{with_item, taken_by}
use Rattle.history_book.specs.HeldBooks.{HeldBook}
use Rattle.memory_station.specs.HeldRows.{HeldTable}
use Rattle.memory_station.specs.HeldStations.{HeldStation}
use Rattle.memory_station.proofs.Ties.{tied-same, moves-read, rooms-read, open-row}
use Rattle.memory_station.proofs.memory.MemoryStationStation.read.Goals as goal

pub invariant_of-self : goal.invariant_of-self
invariant_of-self c =
    let b = c.self.inside in
    let s = c.args.socket in
    let buf = c.read-read.new.buf in
    let item = read_item s c.read-read.result buf in
    let n = taken_by c.read-read.result in
    let is = c.read.ensures ∙ ap (λ (k : HeldBook). with_item item n k) c.begin-goes.ensures.book in
    let o : standing_in b.book.history s ≡ Open = ap (λ (k : HeldStation). standing_in k.book.history s) c.self.view_is ∙ c.requires.is_open in
    let r = rooms-read s c.read-read.result b.table in
    record {
      tied = tied-same b.book c.read.new.self b.table c.read-read.new.self item b.plan 0 c.read_need-need.result n c.self.invariant.tied is
          (moves-read s c.read-read.result buf b.table c.read-read.new.self (open-row b.book b.table s c.self.invariant.tied o) c.read-read.ensures.after)
          (ap (λ (t : HeldTable). t.row_room) c.read-read.ensures.after ∙ r.0) (ap (λ (t : HeldTable). t.brought) c.read-read.ensures.after ∙ r.1);
      most = c.self.invariant.most;
    }
