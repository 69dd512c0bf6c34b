use Rattle.session_log.proofs.Pieces.{log_pieces_same}
use Rattle.session_log.proofs.laws.log_pieces_do_not_matter.Goals as goal

pub returns : goal.returns
returns c = log_pieces_same
