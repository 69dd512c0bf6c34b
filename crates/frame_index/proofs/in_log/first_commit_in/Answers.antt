use Rattle.std.proofs.Common.{◌∙◌, sym, None, Some}
use Rattle.definitions.specs.Held.{commit_of}
use Rattle.frame_index.specs.InLog.{takes}
use Rattle.frame_index.proofs.Lowest.{least_is}
use Rattle.frame_index.proofs.InLog.{first_in_log}
use Rattle.frame_index.proofs.OfTurn.{commit_turn}
use Rattle.frame_index.proofs.in_log.first_commit_in.Goals as goal

pub returns-in-None : goal.returns-in-None
returns-in-None c game logs q h keeps there =
    sym (first_in_log (commit_of c.args.turn) q game c.args.turn logs c.args.log h c.args.seen.now keeps there (commit_turn c.args.turn) None
    (least_is (takes (commit_of c.args.turn) c.args.log) c.args.seen.now None (sym c.first_in.ensures ∙ c.in-None.is)))

pub returns-in-Some : goal.returns-in-Some
returns-in-Some c game logs q h keeps there = c.commit_of.ensures
    ∙ sym (first_in_log (commit_of c.args.turn) q game c.args.turn logs c.args.log h c.args.seen.now keeps there (commit_turn c.args.turn) (Some c.in-Some.first)
    (least_is (takes (commit_of c.args.turn) c.args.log) c.args.seen.now (Some c.in-Some.first) (sym c.first_in.ensures ∙ c.in-Some.is)))
