use Rattle.commitment.proofs.Reading.{none_begins}
use Rattle.commitment.proofs.laws.frames_differ.Goals as goal

pub returns : goal.returns
returns c = none_begins
