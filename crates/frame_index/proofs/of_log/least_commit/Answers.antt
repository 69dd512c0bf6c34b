use Rattle.definitions.specs.Held.{commit_of}
use Rattle.frame_index.specs.InLog.{takes}
use Rattle.frame_index.proofs.OfLog.{least_on}
use Rattle.frame_index.proofs.of_log.least_commit.Goals as goal

pub loop-one-preserved : goal.loop-one-preserved
loop-one-preserved c = least_on (takes (commit_of c.args.turn) c.args.log) c.args.kept.now c.loop-one.one-index c.one-item.result _ _ _ c.loop-one-test.true c.one-item.is c.lower_commit-best.ensures c.loop-one.invariant
