use Rattle.commitment.proofs.Reading.{found_of, none_of}
use Rattle.commitment.proofs.frames.whole_turn.Goals as goal

pub returns-clause-found : goal.returns-clause-found
returns-clause-found c = found_of _ _ (λ i. c.type_inv.bytes i) c.read_turn.ensures

pub returns-clause-none : goal.returns-clause-none
returns-clause-none c = none_of _ _ c.read_turn.ensures
