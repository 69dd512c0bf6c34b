use Rattle.letters.proofs.Read.{letters_are_read}
use Rattle.letters.proofs.laws.letters_are_read.Goals as goal

pub returns : goal.returns
returns c = letters_are_read
