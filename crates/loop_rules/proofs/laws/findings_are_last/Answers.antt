use Rattle.loop_rules.proofs.Findings.{findings_are_last}
use Rattle.loop_rules.proofs.laws.findings_are_last.Goals as goal

pub returns : goal.returns
returns c = findings_are_last
