use Rattle.std.proofs.Common.{◌∙◌, arith}
use Rattle.std.proofs.lemmas.List.{with_items_is}
use Rattle.playout.proofs.Standings.{fresh_counted}
use Rattle.playout.proofs.turns.Playout.restart.Goals as goal

pub invariant_of-self : goal.invariant_of-self
invariant_of-self c =
    let ss = c.self.inside.standings in
    let as_items = with_items_is ss c.reseat.new.standings (omega (arith, c.reseat.auto.standings, c.deref_mut.ensures.len)) in
    fresh_counted c.args.session.now _ (as_items ∙ c.reseat.ensures)
