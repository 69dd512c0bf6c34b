use Rattle.std.proofs.Common.{◌≡◌, ◌*◌, take}
use Rattle.seal_keys.specs.Parts.{joined_below}
use Rattle.seal_keys.specs.Seals as S
use Rattle.seal_keys.proofs.sealing.put_others.Given as goal

abbrev pub invariant-loop-i : goal.invariant-loop-i
invariant-loop-i l = take (32 * l.i) l.out ≡ joined_below (S.other_public l.seed l.place l.message) l.i
