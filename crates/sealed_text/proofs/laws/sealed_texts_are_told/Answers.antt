use Rattle.sealed_text.proofs.Found.{sealed_found, sealed_read}
use Rattle.sealed_text.proofs.Short.{sealed_short}
use Rattle.sealed_text.proofs.laws.sealed_texts_are_told.Goals as goal

pub returns-clause-read : goal.returns-clause-read
returns-clause-read c = sealed_read

pub returns-clause-spelled : goal.returns-clause-spelled
returns-clause-spelled c = sealed_found

pub returns-clause-short : goal.returns-clause-short
returns-clause-short c = sealed_short
