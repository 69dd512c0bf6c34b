use Rattle.std.proofs.Common.{sym, ◌∙◌}
use Rattle.std.proofs.lemmas.Bool.{false≢true}
use Rattle.definition_laws.proofs.Alike.{frame_eq_true}
use Rattle.frame_index.proofs.Derived.{frame_test}
use Rattle.frame_index.proofs.Placed.{same_test}
use Rattle.frame_index.proofs.kept.is_kept.Goals as goal

pub returns-clause-same : goal.returns-clause-same
returns-clause-same c = λ t. frame_eq_true _ _ (sym (frame_test c.args.one.now.frame c.args.frame.now) ∙ sym c.eq.ensures ∙ t)

pub returns-clause-other : goal.returns-clause-other
returns-clause-other c = λ f same. false≢true (sym f ∙ c.eq.ensures ∙ frame_test c.args.one.now.frame c.args.frame.now ∙ same_test _ _ same)
