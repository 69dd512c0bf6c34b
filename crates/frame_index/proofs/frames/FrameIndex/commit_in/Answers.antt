use Rattle.std.proofs.Common.{◌∙◌, sym, None, Some}
use Rattle.definitions.specs.Held.{commit_of}
use Rattle.frame_index.specs.InLog.{takes}
use Rattle.frame_index.proofs.Lowest.{least_is}
use Rattle.frame_index.proofs.InLog.{first_in_log}
use Rattle.frame_index.proofs.OfLog.{kept_least}
use Rattle.frame_index.proofs.OfTurn.{commit_turn}
use Rattle.frame_index.proofs.frames.FrameIndex.commit_in.Goals as goal

pub returns-in-None : goal.returns-in-None
returns-in-None c game logs h index there =
    let kept = index.stands c.args.player c.args.turn in
    sym (first_in_log (commit_of c.args.turn) c.args.player game c.args.turn logs c.args.log h _ kept there (commit_turn c.args.turn) None
    (least_is (takes (commit_of c.args.turn) c.args.log) _ None (kept_least (takes (commit_of c.args.turn) c.args.log) _ _ _ c.kept.ensures (sym c.least_commit.ensures ∙ c.in-None.is))))

pub returns-in-Some : goal.returns-in-Some
returns-in-Some c game logs h index there =
    let kept = index.stands c.args.player c.args.turn in
    c.commit_of.ensures
    ∙ sym (first_in_log (commit_of c.args.turn) c.args.player game c.args.turn logs c.args.log h _ kept there (commit_turn c.args.turn) (Some c.in-Some.first)
    (least_is (takes (commit_of c.args.turn) c.args.log) _ (Some c.in-Some.first) (kept_least (takes (commit_of c.args.turn) c.args.log) _ _ _ c.kept.ensures (sym c.least_commit.ensures ∙ c.in-Some.is))))
