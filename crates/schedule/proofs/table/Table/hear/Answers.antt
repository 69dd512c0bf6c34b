use Rattle.std.proofs.Common.{arith, ap, ◌∙◌, List}
use Rattle.std.proofs.lemmas.List.{with_items_is}
use Rattle.grid_world.proofs.Reveals.{ahead_least}
use Rattle.schedule.specs.declared.tallies.Tally.{Tally}
use Rattle.schedule.specs.Tallies.{tallied}
use Rattle.schedule.proofs.Stepped.{heard_behind, heard_said, heard_table}
use Rattle.schedule.proofs.table.Table.hear.Goals as goal

pub invariant_of-self : goal.invariant_of-self
invariant_of-self c =
    let ts = c.self.inside.tallies in
    let as_items = with_items_is ts c.count.new.tallies (omega (arith, c.count.auto.tallies, c.deref_mut.ensures.len)) in
    let counts = as_items ∙ c.count.ensures ∙ ap (λ (xs : List Tally). tallied xs c.from-at.result c.hear-said.result) c.deref_mut.ensures.value in
    heard_table c.self.inside.session c.self.inside.seats.items ts.items _ _ c.args.from c.args.to c.from-at.result c.args.frame.now _ _ c.hear-said.result (ahead_least _ c.facts.ensures) c.self.invariant c.self.view_is c.from-at.ensures
    c.requires.to c.index_mut.ensures.value c.hear-said.ensures.after c.requires.authentic counts

pub returns-clause-answer : goal.returns-clause-answer
returns-clause-answer c =
    heard_said c.self.inside.session c.self.inside.seats.items c.self.inside.tallies.items _ c.args.from c.args.to c.from-at.result c.args.frame.now _ c.hear-said.result c.self.invariant c.self.view_is c.from-at.ensures
    c.requires.to c.index_mut.ensures.value c.hear-said.ensures.answer

pub returns-clause-after : goal.returns-clause-after
returns-clause-after c =
    let ts = c.self.inside.tallies in
    let as_items = with_items_is ts c.count.new.tallies (omega (arith, c.count.auto.tallies, c.deref_mut.ensures.len)) in
    let counts = as_items ∙ c.count.ensures ∙ ap (λ (xs : List Tally). tallied xs c.from-at.result c.hear-said.result) c.deref_mut.ensures.value in
    heard_behind c.self.inside.session c.self.inside.seats.items ts.items _ _ c.args.from c.args.to c.from-at.result c.args.frame.now _ _ c.hear-said.result c.self.invariant c.self.view_is c.from-at.ensures
    c.requires.to c.index_mut.ensures.value c.hear-said.ensures.after counts
