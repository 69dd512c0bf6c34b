use Rattle.std.proofs.Common.{arith, refl}
use Rattle.definitions.specs.Logs.{made}
use Rattle.peer_core.proofs.MadeFrames.{made_count_more, made_count_same}
use Rattle.peer_core.proofs.sending.count_made.Goals as goal
use Rattle.peer_core.proofs.sending.count_made.Goals.{in-Made, in_default}

pub loop-entry-init : goal.loop-entry-init
unfolding made
loop-entry-init c = record { count_is = refl; few = omega arith }

pub loop-entry-preserved : goal.loop-entry-preserved
loop-entry-preserved c = elim c.match-entry.branch [
  | in-Made w ↦
      let e = made_count_more c.args.entries.now c.loop-entry.entry-index _ _ c.loop-entry-test.true w.in-Made.is in
      let n = w.count-is in
      record { count_is = omega arith; few = omega arith }
  | in_default w ↦
      let e = made_count_same c.args.entries.now c.loop-entry.entry-index _ c.loop-entry-test.true w.in_default.not-Made in
      let n = w.count-is in
      record { count_is = omega arith; few = omega arith }
]
