use Rattle.std.proofs.Common.{◌<◌, ◌∙◌, arith, length, sym}
use Rattle.std.proofs.lemmas.Option.{slice_get-get_or}
use Rattle.frame_index.proofs.Illegals.{illegal_found, illegal_none, none_below_more}
use Rattle.frame_index.proofs.illegal.illegal.Goals as goal

pub returns-then-is_some : goal.returns-then-is_some
returns-then-is_some c logs few turn keeps stand =
    let long = c.told-heads in
    let lt : c.loop-log.log < length c.args.heads.now = omega arith in
    illegal_found c.args.session.now c.args.player c.args.turn logs c.args.seen.now keeps c.loop-log.log c.illegal_in-found.result (sym c.is_some.ensures ∙ c.if-is_some.true)
    c.illegal_in-found.ensures.kept (λ h there. c.illegal_in-found.ensures.shows logs h turn keeps there (stand c.loop-log.log h _ there (slice_get-get_or c.args.heads.now c.loop-log.log _ lt)))
    (c.loop-log.invariant logs turn keeps stand)

pub loop-log-preserved : goal.loop-log-preserved
loop-log-preserved c logs turn keeps stand =
    let long = c.told-heads in
    let lt : c.loop-log.log < length c.args.heads.now = omega arith in
    none_below_more c.args.session.now c.args.player c.args.turn logs c.args.seen.now keeps c.loop-log.log c.illegal_in-found.result (sym c.is_some.ensures ∙ c.if-is_some.false)
    (λ h there. c.illegal_in-found.ensures.shows logs h turn keeps there (stand c.loop-log.log h _ there (slice_get-get_or c.args.heads.now c.loop-log.log _ lt)))
    (c.loop-log.invariant logs turn keeps stand)

pub returns : goal.returns
returns c logs few turn keeps stand =
    illegal_none c.args.session.now c.args.player c.args.turn logs c.args.seen.now keeps c.loop-log.log (omega arith) (c.loop-log.invariant logs turn keeps stand)
