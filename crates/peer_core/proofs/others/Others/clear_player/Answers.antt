use Rattle.std.proofs.Common.{◌≡◌, length, refl, subst, sym}
use Rattle.definitions.specs.World.{players_of}
use Rattle.wait_rule.specs.Spheres.{cells_in}
use Rattle.peer_core.specs.Others.{Known, AreCleared}
use Rattle.peer_core.proofs.Cleared.{cleared_one}
use Rattle.peer_core.proofs.Unheld.{unheld_set}
use Rattle.peer_core.proofs.others.Others.clear_player.Goals as goal

pub invariant_of-self : goal.invariant_of-self
invariant_of-self c = unheld_set c.self.inside.views.items c.self.inside.bare.items c.from-at.result _ _ c.self.invariant refl

pub returns : goal.returns
returns c =
    let IsKnown : Known → Type 0 = λ o. AreCleared c.args.session.now c.args._me c.args.player o in
    let all = subst IsKnown (sym c.self.view_is) c.requires.cleared in
    let seen : length (cells_in c.self.inside.rule) ≡ players_of c.args.session.now = all.rule_is.dilated.seen.one_each in
    record {
      cleared = cleared_one c.args.session.now c.args._me c.args.player c.from-at.result _ c.index_mut.result.now c.clear.new.self _ c.start.result c.resolved.new.self c.from-at.ensures c.requires.player c.requires.other seen all
          c.index_mut.ensures.value c.clear.ensures.window c.clear.ensures.player c.clear.ensures.empty c.clear.ensures.open_still refl c.start.ensures.value c.resolved.ensures.rule c.resolved.ensures.cells;
    }

pub resolved-requires-clause-rule : goal.resolved-requires-clause-rule
resolved-requires-clause-rule c =
    let IsKnown : Known → Type 0 = λ o. AreCleared c.args.session.now c.args._me c.args.player o in
    let all = subst IsKnown (sym c.self.view_is) c.requires.cleared in all.rule_is
