use Rattle.std.proofs.Common.{List, subst, sym}
use Rattle.wait_rule.specs.declared.views.View.{View}
use Rattle.wait_rule.specs.Shown.{AreViews}
use Rattle.peer_core.specs.Others.{Known, AreOthers}
use Rattle.peer_core.proofs.Tables.{others_asked, others_views}
use Rattle.peer_core.proofs.others.Others.find_needs.Goals as goal

pub returns-clause-needs : goal.returns-clause-needs
returns-clause-needs c =
    let Are : List View → Type 0 = λ vs. AreViews c.args.session.now c.args.me c.args.entries.now vs in
    let IsKnown : Known → Type 0 = λ o. AreOthers c.args.session.now c.args.me c.args.entries.now o in
    let all = subst IsKnown (sym c.self.view_is) c.requires.others in
    c.needs.ensures.needs c.args.entries.now (subst Are (sym c.as_slice.ensures.value) (others_views c.args.session.now c.args.me c.args.entries.now _ all)) all.cells_are c.next_stage-stage.ensures.here

pub needs-requires-clause-rule : goal.needs-requires-clause-rule
needs-requires-clause-rule c =
    let IsKnown : Known → Type 0 = λ o. AreOthers c.args.session.now c.args.me c.args.entries.now o in
    let all = subst IsKnown (sym c.self.view_is) c.requires.others in all.rule_is

pub returns-clause-others : goal.returns-clause-others
returns-clause-others c =
    let IsKnown : Known → Type 0 = λ o. AreOthers c.args.session.now c.args.me c.args.entries.now o in
    others_asked c.args.session.now c.args.me c.args.entries.now _ c.needs.new.self (subst IsKnown (sym c.self.view_is) c.requires.others) c.needs.ensures.rule c.needs.ensures.cells
