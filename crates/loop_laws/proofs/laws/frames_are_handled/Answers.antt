use Rattle.loop_laws.proofs.Handled.{frames_are_handled}
use Rattle.loop_laws.proofs.laws.frames_are_handled.Goals as goal

pub returns : goal.returns
returns c = frames_are_handled
