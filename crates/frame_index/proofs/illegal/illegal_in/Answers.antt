use Rattle.std.proofs.Common.{◌∙◌, sym, None, Some, arith}
use Rattle.definitions.specs.Held.{commit_of}
use Rattle.frame_index.specs.InLog.{takes}
use Rattle.frame_index.specs.Judged.{is_wrong}
use Rattle.frame_index.proofs.Lowest.{least_is}
use Rattle.frame_index.proofs.Illegals.{shows_both, shows_no_commit, shows_no_wrong, shows_not_here, wrong_log}
use Rattle.frame_index.proofs.illegal.illegal_in.Goals as goal
use Rattle.frame_index.proofs.illegal.illegal_in.Goals.{then-stream-turn-via-then-stream-turn, then-stream-turn-via-else-stream-turn+then-stream-turn-2}

pub returns-then-stream-turn-clause-shows : goal.returns-then-stream-turn-clause-shows
returns-then-stream-turn-clause-shows c logs h turn keeps there stands =
    shows_not_here c.args.session.now c.args.player c.args.turn h c.args.stream.now c.facts.ensures c.requires.player turn stands logs c.args.log c.args.seen.now keeps there
    (elim c.then-stream-turn.branch [
      | then-stream-turn-via-then-stream-turn w ↦ λ came lt. absurd (w.if-stream-turn.true came)
      | then-stream-turn-via-else-stream-turn+then-stream-turn-2 w ↦ λ came lt. absurd (let le = w.if-stream-turn-2.true in omega arith)
    ])

pub returns-in_default-clause-shows : goal.returns-in_default-clause-shows
returns-in_default-clause-shows c logs h turn keeps there stands =
    shows_no_commit c.args.session.now c.args.player c.args.turn h c.args.stream.now c.facts.ensures c.requires.player turn stands logs c.args.log c.args.seen.now keeps there
    (least_is (takes (commit_of c.args.turn) c.args.log) c.args.seen.now None (sym c.first_in.ensures ∙ c.in_default.is))

pub returns-in_default-least_wrong-clause-shows : goal.returns-in_default-least_wrong-clause-shows
returns-in_default-least_wrong-clause-shows c logs h turn keeps there stands =
    shows_no_wrong c.args.session.now c.args.player c.args.turn h c.args.stream.now c.facts.ensures c.requires.player turn stands logs c.args.log c.args.seen.now keeps there c.in-Some.commit
    (least_is (takes (commit_of c.args.turn) c.args.log) c.args.seen.now (Some c.in-Some.commit) (sym c.first_in.ensures ∙ c.in-Some.is)) (omega arith) (omega arith)
    (least_is (is_wrong c.args.session.now c.args.player c.args.stream.now.track c.in-Some.commit.digest c.args.log) c.args.seen.now None (sym c.least_wrong.ensures ∙ c.in_default-least_wrong.is))

pub returns-clause-shows : goal.returns-clause-shows
returns-clause-shows c logs h turn keeps there stands =
    shows_both c.args.session.now c.args.player c.args.turn h c.args.stream.now c.facts.ensures c.requires.player turn stands logs c.args.log c.args.seen.now keeps there c.in-Some.commit
    (least_is (takes (commit_of c.args.turn) c.args.log) c.args.seen.now (Some c.in-Some.commit) (sym c.first_in.ensures ∙ c.in-Some.is)) (omega arith) (omega arith)
    c.in-Some-least_wrong.wrong c.in_order.result
    (least_is (is_wrong c.args.session.now c.args.player c.args.stream.now.track c.in-Some.commit.digest c.args.log) c.args.seen.now (Some c.in-Some-least_wrong.wrong)
    (sym c.least_wrong.ensures ∙ c.in-Some-least_wrong.is)) c.in_order.ensures

pub returns-clause-kept : goal.returns-clause-kept
returns-clause-kept c =
    let least = least_is (is_wrong c.args.session.now c.args.player c.args.stream.now.track c.in-Some.commit.digest c.args.log) c.args.seen.now (Some c.in-Some-least_wrong.wrong)
    (sym c.least_wrong.ensures ∙ c.in-Some-least_wrong.is) in
    (c.in-Some-least_wrong.wrong, least.0, wrong_log c.args.session.now c.args.player c.args.stream.now.track c.in-Some.commit.digest c.args.log c.in-Some-least_wrong.wrong least.1)
