use Rattle.std.proofs.Common.{sym}
use Rattle.accuser.proofs.seal_book.SealBook.seal.Goals as goal

pub copied-requires : goal.copied-requires
copied-requires c = c.self.invariant c.key_of.result c.in-Some.seal.now (sym c.in-Some.ensures.value)
