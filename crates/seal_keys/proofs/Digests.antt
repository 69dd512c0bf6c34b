-- Digests: how long digests are, and what is made of them.
use Rattle.std.proofs.Common.{◌≡◌, ℕ, zero, suc, ◌<◌, List, length, refl, arith, length-append}
use Rattle.std.specs.Prelude.{nat_lt, replicate}
use Rattle.std.proofs.lemmas.Bool.{lt-ltb}
use Rattle.plain_lemmas.proofs.Tests.{of_chosen}
use Rattle.definitions.specs.World.{Game}
use Rattle.sha2.specs.Sha256.{sha256}
use Rattle.sha2.proofs.Facts256.{length-sha256}
use Rattle.seal_keys.specs.Keys.{leaf_of, node, node_of, places, public_value, public_pair, publics, secret}

pub length-secret : (seed : List ℕ) (k i v : ℕ) → length (secret seed k i v) ≡ 32
unfolding secret
length-secret seed k i v = length-sha256 _

pub length-public_value : (seed : List ℕ) (k i v : ℕ) → length (public_value seed k i v) ≡ 32
unfolding public_value
length-public_value seed k i v = length-sha256 _

pub length-public_pair : (seed : List ℕ) (k i : ℕ) → length (public_pair seed k i) ≡ 64
unfolding public_pair
length-public_pair seed k i =
    omega (arith, length-append (public_value seed k i 0) (public_value seed k i 1), length-public_value seed k i 0, length-public_value seed k i 1)

-- the leaf of a place
pub leaf_of_place : (seed : List ℕ) (count k : ℕ) → k < count → leaf_of seed count k ≡ sha256 (publics seed k)
unfolding leaf_of
leaf_of_place seed count k lt = rw (lt-ltb k count lt) refl

pub length-leaf_of : (seed : List ℕ) (count k : ℕ) → length (leaf_of seed count k) ≡ 32
unfolding leaf_of
length-leaf_of seed count k = of_chosen (λ (b : List ℕ). length b ≡ 32) (nat_lt k count) (sha256 (publics seed k)) (replicate 32 0) (length-sha256 (publics seed k)) refl

pub length-node : (leaves : ℕ → List ℕ) (h j : ℕ) → ((j : ℕ) → length (leaves j) ≡ 32) → length (node leaves h j) ≡ 32
unfolding node
length-node leaves zero j each = each j
length-node leaves (suc h) j each = length-sha256 _

pub length-node_of : (game : Game) (seed : List ℕ) (h j : ℕ) → length (node_of game seed h j) ≡ 32
length-node_of game seed h j = length-node (leaf_of seed (places game)) h j (length-leaf_of seed (places game))
