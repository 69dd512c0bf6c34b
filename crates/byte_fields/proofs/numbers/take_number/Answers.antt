use Rattle.byte_fields.proofs.Placed.{found_of, none_of}
use Rattle.byte_fields.proofs.numbers.take_number.Goals as goal

pub returns-clause-found : goal.returns-clause-found
returns-clause-found c = found_of _ _ _ c.read_at.ensures

pub returns-clause-none : goal.returns-clause-none
returns-clause-none c = none_of _ _ _ c.read_at.ensures
