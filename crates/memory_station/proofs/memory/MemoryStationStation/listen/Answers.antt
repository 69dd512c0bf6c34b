use Rattle.std.proofs.Common.{ap, ◌∙◌}
use Rattle.socket_station.specs.Items.{listen_item}
use Rattle.history_book.specs.Books.{with_item}
use Rattle.history_book.specs.HeldBooks.{HeldBook}
use Rattle.memory_station.proofs.Ties.{tied-quiet, quiet-listen}
use Rattle.memory_station.proofs.memory.MemoryStationStation.listen.Goals as goal

pub invariant_of-self : goal.invariant_of-self
invariant_of-self c =
    let b = c.self.inside in
    let item = listen_item c.did-did.result c.args.addr in
    let is = c.listen.ensures ∙ ap (λ (k : HeldBook). with_item item 0 k) c.begin-goes.ensures.book in
    record { tied = tied-quiet b.book c.listen.new.self b.table item b.plan 0 0 0 c.self.invariant.tied is (λ k s. quiet-listen c.did-did.result c.args.addr k s); most = c.self.invariant.most }
