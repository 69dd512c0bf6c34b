use Rattle.std.proofs.Common.{List, ap, ◌∙◌}
use Rattle.std.specs.List.{list_any}
use Rattle.history_book.specs.HeldBooks.{HeldBook}
use Rattle.history_book.specs.Stores.{HeldPart, names_log, is_begun}
use Rattle.history_book.proofs.Histories.{begun-parts}
use Rattle.history_book.proofs.book.Book.has_log.Goals as goal

pub returns : goal.returns
returns c =
    c.has_log.ensures
    ∙ (ap (λ (parts : List HeldPart). list_any (names_log c.args.name.now) parts) c.self.invariant.seen.parts
    ∙ (begun-parts c.args.name.now c.self.inside.notes ∙ ap (λ (b : HeldBook). is_begun c.args.name.now b.history) c.self.view_is))
