use Rattle.std.proofs.Common.{List, arith, subst, sym}
use Rattle.agreed_turns.specs.declared.accords.Accord.{Accord}
use Rattle.agreed_turns.specs.Accords.{AreCounted}
use Rattle.agreed_turns.proofs.Accorded.{counted_open}
use Rattle.agreed_turns.proofs.accords.Accords.new.Goals as goal

pub invariant_of-result : goal.invariant_of-result
invariant_of-result c =
    let few = c.ranges.turns.fits in
    subst (λ (xs : List Accord). AreCounted xs 0) (sym c.loop.invariant) (counted_open c.loop.counter (omega arith))
