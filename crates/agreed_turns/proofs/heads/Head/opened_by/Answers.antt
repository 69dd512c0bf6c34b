use Rattle.std.proofs.Common.{ap, sym, ◌∙◌}
use Rattle.std.specs.Prelude.{is_ok}
use Rattle.std.proofs.lemmas.Bool.{eqb-true}
use Rattle.agreed_turns.proofs.Stuck.{opens_is}
use Rattle.agreed_turns.proofs.heads.Head.opened_by.Goals as goal
use Rattle.agreed_turns.proofs.heads.Head.opened_by.Goals.{then-other-turn, else-other-turn}

pub returns-then-eq : goal.returns-then-eq
returns-then-eq c logs index =
    elim c.if-other-turn.branch [
      | then-other-turn w ↦
          c.is_ok.ensures.value ∙ ap is_ok c.legal.ensures
          ∙ opens_is c.args.session.now c.args.player c.args.self.now c.args.turn c.args.frame.now _ _ _ _ _ w.digest.result c.in-Reveal.is c.in-Some.is w.if-other-turn.true (w.digest.ensures logs index)
          (sym w.eq.ensures ∙ sym w.value-is ∙ c.if-eq.true)
      | else-other-turn w ↦ absurd (w.if-other-turn.false (eqb-true _ _ (sym w.value-is ∙ c.if-eq.true)))
    ]
