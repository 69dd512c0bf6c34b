use Rattle.std.proofs.Common.{◌∙◌, List, ap, sym}
use Rattle.definitions.specs.declared.world.Cell.{Cell}
use Rattle.dilation.specs.Dilated.{Dilated}
use Rattle.wait_rule.specs.Spheres.{cells_in}
use Rattle.wait_rule.specs.Waiting.{needs_of}
use Rattle.wait_rule.proofs.Hindering.{needs_are, needs_none}
use Rattle.wait_rule.proofs.rule.WaitRule.needs.Goals as goal

pub returns-then-waits-clause-needs : goal.returns-then-waits-clause-needs
returns-then-waits-clause-needs c =
    λ h shown seen is.
    c.add_needs.ensures.needs
    ∙ ap (λ (cs : List Cell). needs_of c.args.session.now c.args.me c.args.stage c.args.views.now cs) (ap (λ (d : Dilated). d.cells) c.look_from.ensures.dilation ∙ ap cells_in c.self.view_is)
    ∙ needs_are c.args.session.now c.args.me h c.args.stage c.args.views.now (cells_in c.args.self.now) shown seen is

pub returns-else-waits-clause-computed : goal.returns-else-waits-clause-computed
returns-else-waits-clause-computed c =
    c.clear.ensures ∙ sym (needs_none c.args.session.now c.args.me c.args.stage c.args.views.now (cells_in c.args.self.now) (sym c.waits.ensures ∙ c.if-waits.false))

pub returns-else-waits-clause-needs : goal.returns-else-waits-clause-needs
returns-else-waits-clause-needs c =
    λ h shown seen is.
    c.clear.ensures ∙ sym (needs_none c.args.session.now c.args.me c.args.stage c.args.views.now (cells_in c.args.self.now) (sym c.waits.ensures ∙ c.if-waits.false))
    ∙ needs_are c.args.session.now c.args.me h c.args.stage c.args.views.now (cells_in c.args.self.now) shown seen is
