use Rattle.std.proofs.Common.{replicate, ◌≡◌}
use Rattle.agreed_turns.specs.declared.accords.Accord.TheVariants.{Open}
use Rattle.agreed_turns.proofs.accords.Accords.new.Given as goal

abbrev pub invariant-loop : goal.invariant-loop
invariant-loop l = l.open.items ≡ replicate l.counter Open
