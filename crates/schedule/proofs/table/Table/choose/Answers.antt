use Rattle.grid_world.proofs.Reveals.{ahead_least}
use Rattle.std.proofs.Common.{refl}
use Rattle.definitions.specs.Steps as D
use Rattle.schedule.specs.Seats.{log_with_choice}
use Rattle.schedule.proofs.Fairness.{fair_after}
use Rattle.schedule.proofs.Stepped.{chosen_stepped, player_inside, table_with}
use Rattle.schedule.proofs.table.Table.choose.Goals as goal

pub invariant_of-self : goal.invariant_of-self
invariant_of-self c =
    table_with c.self.inside.session c.self.inside.seats.items c.self.inside.tallies.items c.self.inside.tallies.items c.args.player c.from.result _ _ (log_with_choice c.args.mv c.args.nonce) c.self.invariant c.from.ensures
    (player_inside c.self.inside.session c.self.inside.seats.items c.self.inside.tallies.items _ c.args.player c.self.view_is c.requires) c.index_mut.ensures.value c.choose.ensures.after
    (fair_after c.self.inside.session _ (D.Choose c.args.player c.args.mv c.args.nonce) (ahead_least _ c.facts.ensures) c.self.invariant.fair) refl

pub returns : goal.returns
returns c =
    chosen_stepped c.self.inside.session c.self.inside.seats.items c.self.inside.tallies.items _ c.args.player c.from.result c.args.mv c.args.nonce _ _ c.choose.result c.self.invariant c.self.view_is c.from.ensures c.requires
    c.index_mut.ensures.value c.choose.ensures.after c.choose.ensures.answer
