use Rattle.log_books.proofs.Kept.{stands}
use Rattle.log_books.proofs.Owned.{whole_here}
use Rattle.log_books.proofs.books.Books.is_agreed.Goals as goal

pub returns : goal.returns
returns c = whole_here _ _ _ _ _ _ _ c.self.view_is (stands _ _ _ _ _ _ _ c.self.view_is c.self.invariant c.requires) c.is_whole.result c.is_whole.ensures
