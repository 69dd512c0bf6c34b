use Rattle.sha2.specs.Hashers.{Holds256}
use Rattle.seal_keys.specs.Seals as S
use Rattle.seal_keys.specs.Parts.{joined_below}
use Rattle.seal_keys.proofs.checking.digest_shown.Given as goal

abbrev pub invariant-loop-bit : goal.invariant-loop-bit
invariant-loop-bit l = Holds256 l.hasher (joined_below (S.shown_pair l.message l.seal) l.bit)
