use Rattle.std.proofs.Common.{◌∙◌, ap, cond, Bool, Some, sym}
use Rattle.std.specs.Prelude.{not}
use Rattle.std.proofs.lemmas.Map.Text.{is_eq-slice_cmp}
use Rattle.frame_index.specs.Clashes.{look}
use Rattle.frame_index.proofs.Derived.{frame_test}
use Rattle.frame_index.proofs.Apart.{clash_found, from_new, noted_new}
use Rattle.frame_index.proofs.clashes.clashes.Goals as goal

pub returns-clause-noted : goal.returns-clause-noted
returns-clause-noted c = λ e. noted_new (look c.args.table.now) (look c.insert.new.self) c.args.one.now c.in_default.ensures.value
    (λ d. c.in_ok-insert.ensures.updates.0 d.bytes ∙ ap (λ (b : Bool). cond b (Some c.args.one.now.frame) (look c.args.table.now d)) (is_eq-slice_cmp c.args.one.now.digest.bytes d.bytes))

pub returns-in-Some-clause-clash : goal.returns-in-Some-clause-clash
returns-in-Some-clause-clash c = λ differ. clash_found (look c.args.table.now) c.args.one.now c.in-Some.frame.now c.ne.result (sym c.is_commit.ensures ∙ c.if-is_commit.false) c.in-Some.ensures.value
    (c.ne.ensures ∙ ap not (frame_test c.in-Some.frame.now c.args.one.now.frame)) differ

pub returns-clause-stays : goal.returns-clause-stays
returns-clause-stays c = from_new (look c.args.table.now) (look c.insert.new.self) c.args.one.now (sym c.is_commit.ensures ∙ c.if-is_commit.false)
    (λ d. c.in_ok-insert.ensures.updates.0 d.bytes ∙ ap (λ (b : Bool). cond b (Some c.args.one.now.frame) (look c.args.table.now d)) (is_eq-slice_cmp c.args.one.now.digest.bytes d.bytes))
