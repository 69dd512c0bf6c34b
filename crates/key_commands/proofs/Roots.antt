-- Roots: a root is 32 bytes, so its line is read as it; and seals are valid under it.
use Rattle.std.proofs.Common.{◌≡◌, ℕ, zero, suc, ◌<◌, ◌≤◌, Bool, true, false, List, Some, arith, nat_lt, if◌then◌else◌}
use Rattle.std.specs.Prelude.{replicate, slice_index}
use Rattle.definitions.specs.World.{Game}
use Rattle.definitions.specs.declared.limits.TheConstants.{GREATEST_PLAYER}
use Rattle.seal_keys.specs.Keys.{leaf_of, node, places, root_of, tree_height}
use Rattle.definitions.specs.Answers.{place_of}
use Rattle.seal_keys.specs.Laws.{SealsAreValid}
use Rattle.seal_keys.specs.Seals.{message, seal_of}
use Rattle.seal_keys.proofs.Digests.{length-node_of}
use Rattle.seal_keys.proofs.Heights.{tree_height_enough}
use Rattle.seal_keys.proofs.Roots.{length-seal_of, root_of_seal, valid_of}
use Rattle.seal_blame.proofs.Bits.{sha256_bytes}
use Rattle.roots.specs.Reading.{root_said}
use Rattle.roots.specs.Text.{root_line}
use Rattle.roots.proofs.Lines.{root_read}

abbrev AreBytes : List ℕ → Type 0
AreBytes xs = (i : ℕ) → slice_index xs i < 256

zero_bytes : (n i : ℕ) → slice_index (replicate n 0) i < 256
zero_bytes zero i = omega arith
zero_bytes (suc n) zero = omega arith
zero_bytes (suc n) (suc i) = zero_bytes n i

either_bytes : (b : Bool) (xs ys : List ℕ) → AreBytes xs → AreBytes ys → AreBytes (if b then xs else ys)
either_bytes true xs ys x y = x
either_bytes false xs ys x y = y

leaf_bytes : (seed : List ℕ) (count k : ℕ) → AreBytes (leaf_of seed count k)
unfolding leaf_of
leaf_bytes seed count k = either_bytes (nat_lt k count) _ _ (sha256_bytes _) (zero_bytes 32)

node_bytes : (leaves : ℕ → List ℕ) (h j : ℕ) → ((j : ℕ) → AreBytes (leaves j)) → AreBytes (node leaves h j)
unfolding node
node_bytes leaves zero j are = are j
node_bytes leaves (suc h) j are = sha256_bytes _

-- the line of a player's root is read as the root
pub root_told : (player : ℕ) (game : Game) (seed : List ℕ) → player ≤ GREATEST_PLAYER → root_said player (root_line player (root_of game seed)) ≡ Some (root_of game seed)
root_told player game seed small =
    root_read player (root_of game seed) small (length-node_of game seed (tree_height game) 0, node_bytes (leaf_of seed (places game)) (tree_height game) 0 (leaf_bytes seed (places game)))

-- each frame's seal is valid under the root of its keys
pub seals_valid : SealsAreValid
seals_valid game seed f few turn place =
    valid_of game (root_of game seed) (seal_of game seed (place_of game f) (message game f)) f turn (length-seal_of game seed (place_of game f) (message game f))
    (root_of_seal game seed (place_of game f) (message game f) place (tree_height_enough game few))
