use Rattle.std.proofs.Common.{ap, ◌∙◌, length}
use Rattle.socket_station.specs.Items.{keep_item}
use Rattle.history_book.specs.Books.{with_item}
use Rattle.history_book.specs.HeldBooks.{HeldBook}
use Rattle.memory_station.proofs.Ties.{tied-quiet, quiet-keep}
use Rattle.memory_station.proofs.memory.MemoryStationStation.keep.Goals as goal

pub invariant_of-self : goal.invariant_of-self
invariant_of-self c =
    let b = c.self.inside in
    let item = keep_item c.did-did.result c.args.bytes.now in
    let is = c.keep.ensures ∙ ap (λ (k : HeldBook). with_item item (length c.args.bytes.now) k) c.begin-goes.ensures.book in
    record { tied = tied-quiet b.book c.keep.new.self b.table item b.plan (length c.args.bytes.now) (length c.args.bytes.now) (length c.args.bytes.now) c.self.invariant.tied is (λ k s. quiet-keep c.did-did.result c.args.bytes.now k s); most = c.self.invariant.most }
