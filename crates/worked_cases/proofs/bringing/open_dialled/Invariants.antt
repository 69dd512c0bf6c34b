use Rattle.std.proofs.Common.{◌≡◌}
use Rattle.worked_cases.proofs.bringing.open_dialled.Given as goal

abbrev pub invariant-bringings : goal.invariant-bringings
invariant-bringings l = l.memory.book.history ≡ l.initial.memory.book.history
