use Rattle.std.proofs.Common.{ap, ◌∙◌, length}
use Rattle.socket_station.specs.Items.{log_item}
use Rattle.history_book.specs.Books.{with_item}
use Rattle.history_book.specs.HeldBooks.{HeldBook}
use Rattle.memory_station.proofs.Ties.{tied-quiet, quiet-log}
use Rattle.memory_station.proofs.memory.MemoryStationStation.log_to.Goals as goal

pub invariant_of-self : goal.invariant_of-self
invariant_of-self c =
    let b = c.self.inside in
    let item = log_item c.did-did.result c.args.name.now in
    let is = c.log_to.ensures ∙ ap (λ (k : HeldBook). with_item item (length c.args.name.now) k) c.begin-goes.ensures.book in
    record { tied = tied-quiet b.book c.log_to.new.self b.table item b.plan (length c.args.name.now) (length c.args.name.now) (length c.args.name.now) c.self.invariant.tied is (λ k s. quiet-log c.did-did.result c.args.name.now k s); most = c.self.invariant.most }
