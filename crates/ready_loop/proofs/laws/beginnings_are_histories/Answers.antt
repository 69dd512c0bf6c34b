use Rattle.ready_loop.proofs.Whole.{beginnings_are_histories}
use Rattle.ready_loop.proofs.laws.beginnings_are_histories.Goals as goal

pub returns : goal.returns
returns c = beginnings_are_histories
