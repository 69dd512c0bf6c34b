use Rattle.std.proofs.Common.{arith}
use Rattle.std.proofs.lemmas.Option.{slice_get-get_or}
use Rattle.definition_laws.proofs.Members.{slice_get_Has}
use Rattle.frame_index.specs.Clashes.{look}
use Rattle.frame_index.proofs.Apart.{apart_by, clash_of, noted_more}
use Rattle.frame_index.proofs.clashes.are_apart.Goals as goal

pub returns-clause-apart : goal.returns-clause-apart
returns-clause-apart c = λ e. apart_by (look c.loop-one.table) c.args.seen.now (λ n k lt at. c.loop-one.invariant.noted n k (omega arith) at)

pub returns-then-branch-clause-clash : goal.returns-then-branch-clause-clash
returns-then-branch-clause-clash c = λ e. clash_of (look c.loop-one.table) c.args.seen.now _ (slice_get_Has c.args.seen.now c.loop-one.one-index _ (slice_get-get_or c.args.seen.now c.loop-one.one-index _ c.loop-one-test.true))
    c.loop-one.invariant.from (c.in_ok-clashes.ensures.clash c.if-branch.true)

pub loop-one-preserved : goal.loop-one-preserved
loop-one-preserved c =
    let here = slice_get-get_or c.args.seen.now c.loop-one.one-index _ c.loop-one-test.true in
    record {
      noted = noted_more c.args.seen.now c.loop-one.one-index (look c.loop-one.table) (look c.clashes.new.table) _ here (c.in_ok-clashes.ensures.noted c.if-branch.false) c.loop-one.invariant.noted;
      from = c.in_ok-clashes.ensures.stays c.args.seen.now (slice_get_Has c.args.seen.now c.loop-one.one-index _ here) c.loop-one.invariant.from;
    }
