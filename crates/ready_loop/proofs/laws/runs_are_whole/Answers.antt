use Rattle.ready_loop.proofs.Whole.{runs_are_whole}
use Rattle.ready_loop.proofs.laws.runs_are_whole.Goals as goal

pub returns : goal.returns
returns c = runs_are_whole
