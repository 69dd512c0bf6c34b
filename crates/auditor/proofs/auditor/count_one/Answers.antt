use Rattle.auditor.proofs.Counted.{put_within}
use Rattle.auditor.proofs.auditor.count_one.Goals as goal

pub returns : goal.returns
returns c = put_within 0 c.args.counts.now c.args.log _ c.requires.log
