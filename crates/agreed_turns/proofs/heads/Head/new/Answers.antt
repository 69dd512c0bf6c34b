use Rattle.agreed_turns.proofs.Stuck.{at_start}
use Rattle.agreed_turns.proofs.heads.Head.new.Goals as goal

pub returns : goal.returns
returns c = at_start c.args.session.now c.args.player c.start_track.result c.start_track.ensures
