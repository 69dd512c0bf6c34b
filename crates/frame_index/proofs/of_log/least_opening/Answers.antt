use Rattle.frame_index.specs.Judged.{is_good}
use Rattle.frame_index.proofs.OfLog.{least_on}
use Rattle.frame_index.proofs.of_log.least_opening.Goals as goal

pub loop-one-preserved : goal.loop-one-preserved
loop-one-preserved c =
    least_on (is_good c.args.session.now c.args.player c.args.track.now c.args.digest.now c.args.log) c.args.kept.now c.loop-one.one-index c.one-item.result _ _ _
    c.loop-one-test.true c.one-item.is c.lower_opening-best.ensures c.loop-one.invariant
