use Rattle.std.proofs.Common.{take}
use Rattle.make_command.specs.Audits.{HasTakenOf}
use Rattle.make_command.proofs.auditing.take_entries.Given as goal

abbrev pub invariant-loop-entry : goal.invariant-loop-entry
invariant-loop-entry l = HasTakenOf l.initial.auditor l.auditor l.log (take l.entry-index l.entries)
