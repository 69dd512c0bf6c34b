use Rattle.std.proofs.Common.{◌≡◌}
use Rattle.worked_cases.proofs.posts.CasePost.expect.Given as goal

abbrev pub invariant-mails : goal.invariant-mails
invariant-mails l = l.self.memory ≡ l.initial.self.memory
