use Rattle.std.proofs.Common.{◌≡◌, ◌*◌, ◌/◌, ◌^◌, take}
use Rattle.seal_keys.specs.Parts.{joined_below}
use Rattle.seal_keys.specs.Seals as S
use Rattle.seal_keys.proofs.keys.SealKeys.put_siblings.Given as goal

abbrev pub invariant-loop-height : goal.invariant-loop-height
invariant-loop-height l = record {
  done : take (32 * l.height) l.out ≡ joined_below (S.sibling_at l.self.game l.self.seed l.place) l.height;
  index : l.index ≡ l.place / 2 ^ l.height;
}
