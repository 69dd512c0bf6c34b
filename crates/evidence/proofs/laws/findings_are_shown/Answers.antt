use Rattle.evidence.proofs.Illegal.{findings_are_shown}
use Rattle.evidence.proofs.Standing.{findings_stand}
use Rattle.evidence.proofs.laws.findings_are_shown.Goals as goal

pub returns-clause-shown : goal.returns-clause-shown
returns-clause-shown c = findings_are_shown

pub returns-clause-stand : goal.returns-clause-stand
returns-clause-stand c = findings_stand
