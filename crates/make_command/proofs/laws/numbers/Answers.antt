use Rattle.make_command.proofs.Decimals.{numbers_told}
use Rattle.make_command.proofs.laws.numbers.Goals as goal

pub returns : goal.returns
returns c = numbers_told
