use Rattle.session_log.proofs.Parts.{joined_behind}
use Rattle.session_log.proofs.feed.joined_at.Goals as goal

pub returns-then-at-ge32 : goal.returns-then-at-ge32
returns-then-at-ge32 c = λ some. joined_behind c.args.piece.now c.args.at c.if-at-ge32.true
