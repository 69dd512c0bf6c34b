-- Paths: a seal's path to the root, height by height.
use Rattle.std.proofs.Common.{◌≡◌, ℕ, ◌+◌, ◌/◌, ◌^◌, List, refl, add-one}
use Rattle.std.proofs.lemmas.Nat.{shr-shr}
use Rattle.sha2.specs.Sha256.{sha256}
use Rattle.seal_keys.specs.Parts.{part_of}
use Rattle.seal_keys.specs.Seals.{beside, seal_path, shown}

pub seal_path_none : (m seal : List ℕ) (k : ℕ) → seal_path m seal k 0 ≡ shown m seal
unfolding seal_path
seal_path_none m seal k = refl

pub seal_path_more : (m seal : List ℕ) (k h : ℕ) → seal_path m seal k (h + 1) ≡ beside (k / 2 ^ h) (sha256 (seal_path m seal k h)) (part_of seal (512 + h))
unfolding seal_path
seal_path_more m seal k h = rw add-one refl

-- the index of the parent
pub index_up : (k h : ℕ) → k / 2 ^ h / 2 ≡ k / 2 ^ (h + 1)
index_up k h = shr-shr k h 1
