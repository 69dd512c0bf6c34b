use Rattle.std.proofs.Common.{ap, ◌∙◌}
use Rattle.socket_station.specs.Items.{sync_item}
use Rattle.history_book.specs.Books.{with_item}
use Rattle.history_book.specs.HeldBooks.{HeldBook}
use Rattle.memory_station.proofs.Ties.{tied-quiet, quiet-sync}
use Rattle.memory_station.proofs.memory.MemoryStationStation.sync.Goals as goal

pub invariant_of-self : goal.invariant_of-self
invariant_of-self c =
    let b = c.self.inside in
    let item = sync_item c.did-did.result in
    let is = c.sync.ensures ∙ ap (λ (k : HeldBook). with_item item 0 k) c.begin-goes.ensures.book in
    record { tied = tied-quiet b.book c.sync.new.self b.table item b.plan 0 0 0 c.self.invariant.tied is (λ k s. quiet-sync c.did-did.result k s); most = c.self.invariant.most }
