use Rattle.loop_laws.proofs.Given.{frames_are_given}
use Rattle.loop_laws.proofs.laws.frames_are_given.Goals as goal

pub returns : goal.returns
returns c = frames_are_given
