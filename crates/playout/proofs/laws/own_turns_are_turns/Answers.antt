use Rattle.playout.proofs.Counting.{missing_turn_alike, own_turn_alike, own_turns_alike}
use Rattle.playout.proofs.laws.own_turns_are_turns.Goals as goal

pub returns-clause-turn : goal.returns-clause-turn
returns-clause-turn c = own_turn_alike

pub returns-clause-turns : goal.returns-clause-turns
returns-clause-turns c = own_turns_alike

pub returns-clause-missing : goal.returns-clause-missing
returns-clause-missing c = missing_turn_alike
