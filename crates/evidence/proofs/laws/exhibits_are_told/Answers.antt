use Rattle.evidence.proofs.Found.{exhibit_read, exhibit_spelled}
use Rattle.evidence.proofs.Short.{text_short}
use Rattle.evidence.proofs.laws.exhibits_are_told.Goals as goal

pub returns-clause-read : goal.returns-clause-read
returns-clause-read c = exhibit_read

pub returns-clause-spelled : goal.returns-clause-spelled
returns-clause-spelled c = exhibit_spelled

pub returns-clause-short : goal.returns-clause-short
returns-clause-short c = text_short
