use Rattle.make_command.specs.Audits.{HasTaken}
use Rattle.make_command.proofs.auditing.audit.Given as goal

abbrev pub invariant-loop-player : goal.invariant-loop-player
invariant-loop-player l = HasTaken l.table.game l.table.logs l.player l.auditor
