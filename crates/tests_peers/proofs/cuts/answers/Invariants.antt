use Rattle.std.proofs.Common.{◌≤◌, length}
use Rattle.tests_peers.proofs.cuts.answers.Given as goal

abbrev pub invariant-answers : goal.invariant-answers
invariant-answers l = (l.reader.at ≤ length l.log) × (length l.log ≤ 1000)
