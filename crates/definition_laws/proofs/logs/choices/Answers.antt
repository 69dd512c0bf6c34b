use Rattle.std.proofs.Common.{◌∙◌}
use Rattle.definition_laws.proofs.ForPeers.{chosen_for_item, chosen_item, own_counts}
use Rattle.definition_laws.proofs.logs.choices.Goals as goal

pub returns-clause-order : goal.returns-clause-order
returns-clause-order c game me t h o d i e =
    let at = chosen_item game me t h o d i e in (at.0, at.1, chosen_for_item game me t h d i ∙ e)

pub returns-clause-one : goal.returns-clause-one
returns-clause-one c game me h d i = let w = own_counts game me h d i in (w.enough, w.ready, w.few)
