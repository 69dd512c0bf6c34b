use Rattle.std.proofs.Common.{arith, refl}
use Rattle.definitions.specs.Logs.{chosen}
use Rattle.peer_core.proofs.FirstEntries.{chosen_more, chosen_same}
use Rattle.peer_core.proofs.cutting.count_chosen.Goals as goal
use Rattle.peer_core.proofs.cutting.count_chosen.Goals.{in-Chose, in_default}

pub loop-entry-init : goal.loop-entry-init
unfolding chosen
loop-entry-init c = record { count_is = refl; few = omega arith }

pub loop-entry-preserved : goal.loop-entry-preserved
loop-entry-preserved c = elim c.match-entry.branch [
  | in-Chose w ↦
      let e = chosen_more c.args._me c.loop-entry.entry-index c.args.entries.now _ _ _ _ _ c.loop-entry-test.true refl w.in-Chose.is in
      let n = w.count-is in
      record { count_is = omega arith; few = omega arith }
  | in_default w ↦
      let e = chosen_same c.args._me c.loop-entry.entry-index c.args.entries.now _ _ c.loop-entry-test.true refl w.in_default.not-Chose in
      let n = w.count-is in
      record { count_is = omega arith; few = omega arith }
]
