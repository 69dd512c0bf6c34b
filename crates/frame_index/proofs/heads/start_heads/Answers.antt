use Rattle.frame_index.proofs.Headed.{start_open, start_stand}
use Rattle.frame_index.proofs.heads.start_heads.Goals as goal

pub returns-clause-tracks : goal.returns-clause-tracks
returns-clause-tracks c = start_open c.args.session.now c.args.player c.start_stream.result 64 c.facts.ensures c.requires c.start_stream.ensures

pub returns-clause-stand : goal.returns-clause-stand
returns-clause-stand c = λ logs. start_stand c.args.session.now c.args.player c.start_stream.result 64 logs c.start_stream.ensures
