use Rattle.std.proofs.Common.{◌∙◌, ap, arith}
use Rattle.std.proofs.lemmas.List.{with_items_is}
use Rattle.playout.specs.Playing.{Played, all_after}
use Rattle.playout.proofs.Standings.{fields_lockstep, turn_counted}
use Rattle.playout.proofs.turns.Playout.turn.Goals as goal

pub invariant_of-self : goal.invariant_of-self
invariant_of-self c =
    let ss = c.self.inside.standings in
    let as_items = with_items_is ss c.play.new.standings (omega (arith, c.play.auto.standings, c.deref_mut.ensures.len)) in
    turn_counted c.args.session.now c.args.moves.now c.self.inside.turns ss.items _ (omega arith) (omega (arith, ap (λ (p : Played). p.turns) c.self.view_is)) c.self.invariant
    (as_items ∙ c.play.ensures ∙ ap (all_after c.args.session.now c.args.moves.now 0) c.deref_mut.ensures.value)

pub returns-clause-lockstep : goal.returns-clause-lockstep
returns-clause-lockstep c = λ all so_far turn.
    let ss = c.self.inside.standings in
    let as_items = with_items_is ss c.play.new.standings (omega (arith, c.play.auto.standings, c.deref_mut.ensures.len)) in
    fields_lockstep c.args.session.now all c.args.moves.now c.self.inside.turns ss.items _ c.args.self.now c.self.view_is
    (as_items ∙ c.play.ensures ∙ ap (all_after c.args.session.now c.args.moves.now 0) c.deref_mut.ensures.value) so_far turn
