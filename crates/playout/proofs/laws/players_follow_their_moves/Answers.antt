use Rattle.playout.proofs.Standings.{legal_played, stands_by_moves}
use Rattle.playout.proofs.laws.players_follow_their_moves.Goals as goal

pub returns-clause-stand : goal.returns-clause-stand
returns-clause-stand c = stands_by_moves

pub returns-clause-played : goal.returns-clause-played
returns-clause-played c = legal_played
