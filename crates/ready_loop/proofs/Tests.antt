-- Tests: what two tests come to.
use Rattle.std.proofs.Common.{◌≡◌, Bool, true, false, refl}
use Rattle.std.specs.Prelude.{not}

pub not_of : (b : Bool) → not b ≡ true → b ≡ false
not_of true n = absurd (cc)
not_of false n = refl
