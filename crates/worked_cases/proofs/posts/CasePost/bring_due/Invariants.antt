use Rattle.std.proofs.Common.{◌≡◌}
use Rattle.worked_cases.proofs.posts.CasePost.bring_due.Given as goal

abbrev pub invariant-mails : goal.invariant-mails
invariant-mails l = l.self.memory.history ≡ l.initial.self.memory.history
