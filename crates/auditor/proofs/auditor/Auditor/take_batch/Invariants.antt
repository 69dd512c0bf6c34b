use Rattle.std.proofs.Common.{take, ◌+◌, ◌≡◌}
use Rattle.auditor.specs.Audits.{count_in, owner_in}
use Rattle.auditor.specs.Taking.{LeavesOthers, Takes}
use Rattle.auditor.proofs.auditor.Auditor.take_batch.Given as goal

abbrev pub invariant-entries : goal.invariant-entries
invariant-entries l = record {
  taken : Takes l.fn.self l.self l.log (take l.entry-index l.batch);
  count : count_in l.self l.log ≡ count_in l.fn.self l.log + l.entry-index;
  session : l.self.session ≡ l.fn.self.session;
  owner : owner_in l.self l.log ≡ owner_in l.fn.self l.log;
  others : LeavesOthers l.fn.self l.self l.log;
}
