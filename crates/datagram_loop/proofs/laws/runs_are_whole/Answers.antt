use Rattle.datagram_loop.proofs.Whole.{beginnings_are_runs, plays_go_on}
use Rattle.datagram_loop.proofs.laws.runs_are_whole.Goals as goal

pub returns-clause-begun : goal.returns-clause-begun
returns-clause-begun c = beginnings_are_runs

pub returns-clause-played : goal.returns-clause-played
returns-clause-played c = plays_go_on
