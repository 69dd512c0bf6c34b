use Rattle.std.proofs.Common.{ap, subst, ◌∙◌}
use Rattle.socket_station.specs.Items.{dial_item}
use Rattle.socket_station.specs.Standings.{OpensNew}
use Rattle.history_book.specs.Books.{with_item}
use Rattle.history_book.specs.HeldBooks.{HeldBook}
use Rattle.memory_station.specs.HeldStations.{HeldStation}
use Rattle.memory_station.proofs.Ties.{tied-dial, fresh-dial}
use Rattle.memory_station.proofs.memory.MemoryStationStation.dial.Goals as goal

pub invariant_of-self : goal.invariant_of-self
invariant_of-self c =
    let b = c.self.inside in
    let item = dial_item c.dial-dial.result c.args.player c.args.addr in
    let is = c.dial.ensures ∙ ap (λ (k : HeldBook). with_item item 0 k) c.begin-goes.ensures.book in
    record {
      tied = tied-dial b.book c.dial.new.self b.table c.dial-dial.new.self b.plan c.begin-goes.result c.dial-dial.result c.args.player c.args.addr c.self.invariant.tied c.begin-goes.ensures.goes is c.dial-dial.ensures.answer c.dial-dial.ensures.after c.dial-dial.ensures.moves;
      most = c.self.invariant.most;
    }

pub returns-clause-fresh : goal.returns-clause-fresh
returns-clause-fresh c =
    let P : HeldStation → Type 0 = λ s. OpensNew s.book.history (dial_item c.dial-dial.result c.args.player c.args.addr) in
    subst P c.self.view_is (fresh-dial c.dial-dial.result c.args.player c.args.addr c.self.inside.book c.self.inside.table c.self.invariant.tied c.dial-dial.ensures.fresh)
