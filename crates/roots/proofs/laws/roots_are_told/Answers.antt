use Rattle.roots.proofs.Taken.{roots_found, roots_read}
use Rattle.roots.proofs.Short.{roots_short}
use Rattle.roots.proofs.laws.roots_are_told.Goals as goal

pub returns-clause-read : goal.returns-clause-read
returns-clause-read c = roots_read

pub returns-clause-spelled : goal.returns-clause-spelled
returns-clause-spelled c = roots_found

pub returns-clause-short : goal.returns-clause-short
returns-clause-short c = roots_short
