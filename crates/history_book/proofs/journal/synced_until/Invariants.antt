use Rattle.std.proofs.Common.{◌≡◌, take}
use Rattle.history_book.specs.Journals.{synced_at}
use Rattle.history_book.proofs.journal.synced_until.Given as goal

abbrev pub invariant-loop-mark : goal.invariant-loop-mark
invariant-loop-mark l = l.until ≡ synced_at l.items (take l.mark-index l.marks)
