use Rattle.text_lines.proofs.Joined.{joined-ended_lines_of}
use Rattle.text_lines.proofs.laws.texts_are_their_lines.Goals as goal

pub returns : goal.returns
returns c = joined-ended_lines_of
