use Rattle.std.proofs.Common.{◌≡◌}
use Rattle.worked_cases.proofs.bringing.Bringing.bring_all.Given as goal

abbrev pub invariant-pieces : goal.invariant-pieces
invariant-pieces l = l.memory.book.history ≡ l.initial.memory.book.history
