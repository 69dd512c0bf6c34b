use Rattle.std.proofs.Common.{◌<◌, ◌^◌, ℕ, List, take, sym, ap, ◌∙◌, rules}
use Rattle.socket_station.specs.Moved.{synced_in}
use Rattle.history_book.specs.declared.journal.SyncMark.{SyncMark}
use Rattle.history_book.specs.HeldBooks.{HeldBook}
use Rattle.history_book.specs.Journals.{synced_at, marking_in}
use Rattle.history_book.proofs.Marks.{synced-is}
use Rattle.history_book.proofs.book.Book.synced.Goals as goal

pub returns : goal.returns
returns c =
    let h : c.args.items < 2 ^ 32 = search rules in
    let b = c.self.inside in
    c.synced.ensures
    ∙ (ap (λ (ms : List SyncMark). take (synced_at c.args.items ms) b.journal.kept) c.self.invariant.seen.marks
    ∙ (ap (λ (bytes : List ℕ). take (synced_at c.args.items (marking_in b.notes).marks) bytes) c.self.invariant.seen.kept
    ∙ (sym (synced-is c.args.items b.notes h) ∙ ap (λ (k : HeldBook). synced_in (take c.args.items k.history)) c.self.view_is)))
