use Rattle.std.proofs.Common.{List, ap, subst, sym, ◌∙◌}
use Rattle.definitions.specs.declared.answers.Need.{Need}
use Rattle.definitions.specs.Lists.{is_empty}
use Rattle.wait_rule.specs.Spheres.{cells_in}
use Rattle.peer_core.specs.Others.{Known, AreOthers}
use Rattle.peer_core.proofs.Choices.{empty_is}
use Rattle.peer_core.proofs.Tables.{others_asked, others_views}
use Rattle.peer_core.proofs.Unheld.{unheld_lets}
use Rattle.peer_core.proofs.others.Others.let_on.Goals as goal

pub returns-clause-lets : goal.returns-clause-lets
returns-clause-lets c =
    let IsKnown : Known → Type 0 = λ o. AreOthers c.args.session.now c.args.me c.args._entries.now o in
    let all = subst IsKnown (sym c.self.view_is) c.requires.others in
    let views = others_views c.args.session.now c.args.me c.args._entries.now _ all in
    empty_is c.is_empty.result c.as_slice.result.now c.is_empty.ensures ∙ ap (λ (ns : List Need). is_empty ns) c.as_slice.ensures.items
    ∙ unheld_lets c.args.session.now c.args.me c.args.turn c.args._entries.now c.args.at c.self.inside.views.items c.as_slice-views.result.now (cells_in c.self.inside.rule) c.needs.new.out views
    (c.as_slice-views.ensures.value ∙ c.self.invariant) all.cells_are c.requires.at c.needs.ensures.computed

pub needs-requires-clause-rule : goal.needs-requires-clause-rule
needs-requires-clause-rule c =
    let IsKnown : Known → Type 0 = λ o. AreOthers c.args.session.now c.args.me c.args._entries.now o in
    let all = subst IsKnown (sym c.self.view_is) c.requires.others in all.rule_is

pub returns-clause-others : goal.returns-clause-others
returns-clause-others c =
    let IsKnown : Known → Type 0 = λ o. AreOthers c.args.session.now c.args.me c.args._entries.now o in
    others_asked c.args.session.now c.args.me c.args._entries.now _ c.needs.new.self (subst IsKnown (sym c.self.view_is) c.requires.others) c.needs.ensures.rule c.needs.ensures.cells
