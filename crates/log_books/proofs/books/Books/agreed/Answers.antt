use Rattle.log_books.proofs.Kept.{stands}
use Rattle.log_books.proofs.Owned.{agreed_here}
use Rattle.log_books.proofs.books.Books.agreed.Goals as goal

pub returns : goal.returns
returns c = agreed_here _ _ _ _ _ _ _ c.self.view_is (stands _ _ _ _ _ _ _ c.self.view_is c.self.invariant c.requires.whole) c.args.player c.agreed.result c.agreed.ensures
