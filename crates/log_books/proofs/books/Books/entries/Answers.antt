use Rattle.std.proofs.Common.{ap, ◌∙◌}
use Rattle.auditor.specs.Audits.{count_in}
use Rattle.log_books.proofs.Kept.{entries_here, stands}
use Rattle.log_books.proofs.books.Books.entries.Goals as goal

pub returns : goal.returns
returns c s there =
    entries_here _ _ _ _ _ _ _ c.args.player c.count.result c.self.view_is (stands _ _ _ _ _ _ _ c.self.view_is c.self.invariant c.requires.whole)
    (c.count.ensures ∙ ap (λ n. count_in c.self.inside.auditor n) c.from.ensures) s there
