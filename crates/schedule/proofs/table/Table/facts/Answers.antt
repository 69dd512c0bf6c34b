use Rattle.std.proofs.Common.{subst}
use Rattle.grid_world.proofs.Reveals.{ahead_least}
use Rattle.schedule.specs.Tables.{TableState}
use Rattle.schedule.specs.Theorem.{HoldsOfAll}
use Rattle.schedule.proofs.Holding.{fair_holds}
use Rattle.schedule.proofs.table.Table.facts.Goals as goal

pub returns : goal.returns
returns c =
    let Holds : TableState → Type 0 = λ t. HoldsOfAll t.game t.logs in
    subst Holds c.self.view_is (fair_holds _ _ (ahead_least _ c.facts.ensures) c.self.invariant.fair)
