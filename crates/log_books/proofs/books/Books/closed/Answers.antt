use Rattle.log_books.proofs.Kept.{closed_here, kept_here}
use Rattle.log_books.proofs.books.Books.closed.Goals as goal

pub returns : goal.returns
returns c s there =
    let k = kept_here _ _ _ _ _ _ _ c.args.player c.from.result c.index.result.now c.self.view_is c.self.invariant c.requires.whole c.requires.player c.from.ensures c.index.ensures in
    closed_here _ _ _ _ _ _ c.args.player c.index.result.now c.closed.result c.self.view_is k (c.closed.ensures _ _ _ k.stream k.page) s there
