use Rattle.sha2.specs.Hashers.{Holds256}
use Rattle.seal_keys.specs.Keys as K
use Rattle.seal_keys.specs.Parts.{joined_below}
use Rattle.seal_keys.proofs.values.digest_of_publics.Given as goal

abbrev pub invariant-loop-bit : goal.invariant-loop-bit
invariant-loop-bit l = Holds256 l.hasher (joined_below (K.public_pair l.seed l.place) l.bit)
