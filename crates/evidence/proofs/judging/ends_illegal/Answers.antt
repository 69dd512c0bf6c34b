use Rattle.std.proofs.Common.{[], sym, ◌∙◌}
use Rattle.definitions.specs.declared.frames.TurnFrame.{TurnFrame}
use Rattle.definitions.specs.declared.frames.TurnFrame.TheVariants.{Commit}
use Rattle.evidence.proofs.Walking.{at_two, walk_stops, walk_ends, walk_breaks, walk_on, legal_ok, legal_err, is_empty_len, is_err_legal, none_two}
use Rattle.evidence.proofs.judging.ends_illegal.Goals as goal

abbrev no_frame : TurnFrame
no_frame = Commit 0 0 (record { bytes = [] })

pub returns-in_default-move_opened : goal.returns-in_default-move_opened
returns-in_default-move_opened c =
    let at = at_two _ _ _ c.loop-rest.rest.now no_frame _ _ _ c.in-len2-up.len_at_least c.loop-rest.invariant in
    walk_stops _ _ _ _ _ _ _ _ _ at c.in_default-move_opened.ensures

pub returns-then-is_err : goal.returns-then-is_err
returns-then-is_err c =
    let at = at_two _ _ _ c.loop-rest.rest.now no_frame _ _ _ c.in-len2-up.len_at_least c.loop-rest.invariant in
    let ends = walk_ends _ _ _ _ _ _ _ _ _ c.in-Some.mv at c.in-Some.ensures c.if-turn-last.true in
    let is = sym (is_err_legal c.args.session.now c.args.player c.loop-rest.track c.in-Some.mv c.legal-verdict.result c.legal-verdict.ensures) ∙ sym c.is_err.ensures.value ∙ c.if-is_err.true in
    c.is_empty.ensures ∙ sym (is_empty_len _) ∙ rw is at ends

pub returns-else-is_err : goal.returns-else-is_err
returns-else-is_err c =
    let at = at_two _ _ _ c.loop-rest.rest.now no_frame _ _ _ c.in-len2-up.len_at_least c.loop-rest.invariant in
    let ends = walk_ends _ _ _ _ _ _ _ _ _ c.in-Some.mv at c.in-Some.ensures c.if-turn-last.true in
    let is = sym (is_err_legal c.args.session.now c.args.player c.loop-rest.track c.in-Some.mv c.legal-verdict.result c.legal-verdict.ensures) ∙ sym c.is_err.ensures.value ∙ c.if-is_err.false in
    c.if-is_err.false ∙ rw is at ends

pub returns-in_default-verdict : goal.returns-in_default-verdict
returns-in_default-verdict c =
    let at = at_two _ _ _ c.loop-rest.rest.now no_frame _ _ _ c.in-len2-up.len_at_least c.loop-rest.invariant in
    walk_breaks _ _ _ _ _ _ _ _ _ c.in-Some.mv at c.in-Some.ensures c.if-turn-last.false (legal_err _ _ _ _ c.in_default-verdict.field-0 c.in_default-verdict.ensures)

pub loop-rest-preserved : goal.loop-rest-preserved
loop-rest-preserved c =
    let at = at_two _ _ _ c.loop-rest.rest.now no_frame _ _ _ c.in-len2-up.len_at_least c.loop-rest.invariant in
    let legal = legal_ok _ _ _ c.in-Ok.next _ c.in-Ok.ensures in
    rw legal.1 (walk_on _ _ _ _ _ _ _ _ _ c.in-Some.mv at c.in-Some.ensures c.if-turn-last.false legal.0)

pub returns : goal.returns
returns c = sym (none_two _ _ _ c.loop-rest.rest.now _ c.in_default.len_below) ∙ c.loop-rest.invariant.rest
