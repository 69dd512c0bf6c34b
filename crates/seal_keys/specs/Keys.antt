-- Keys: one-time keys by Lamport's scheme, one for each place, under the root of a Merkle tree.
use Rattle.std.specs.Prelude.{ℕ, zero, suc, ◌+◌, ◌*◌, ◌^◌, List, [], ◌∷◌, ◌++◌, replicate, nat_lt, nat_le, if◌then◌else◌}
use Rattle.std.specs.Int.{w32, to_be_bytes}
use Rattle.sha2.specs.Sha256.{sha256}
use Rattle.definitions.specs.World.{Game}
use Rattle.seal_keys.specs.declared.tree.TheConstants.{MOST_HEIGHT}
use Rattle.seal_keys.specs.Parts.{joined_below}

-- the bytes that a secret hashes: the seed, the place k in four bytes, the bit i and its value v
abbrev pub secret_bytes : List ℕ → (k i v : ℕ) → List ℕ
secret_bytes seed k i v = seed ++ (to_be_bytes w32 k ++ i ∷ v ∷ [])

-- the secret of a place for the value of a bit
unfoldable pub secret : List ℕ → (k i v : ℕ) → List ℕ
secret seed k i v = sha256 (secret_bytes seed k i v)

-- the public value of a secret: its digest, which anybody may know
unfoldable pub public_value : List ℕ → (k i v : ℕ) → List ℕ
public_value seed k i v = sha256 (secret seed k i v)

-- the two public values of a bit, that of 0 first
unfoldable pub public_pair : List ℕ → (k i : ℕ) → List ℕ
public_pair seed k i = public_value seed k i 0 ++ public_value seed k i 1

-- the 512 public values of a place, by bit, then by value
unfoldable pub publics : List ℕ → ℕ → List ℕ
publics seed k = joined_below (public_pair seed k) 256

-- the leaf of place k, where there are so many places: past the last, 32 zero bytes
unfoldable pub leaf_of : List ℕ → (count k : ℕ) → List ℕ
leaf_of seed count k = if nat_lt k count then sha256 (publics seed k) else replicate 32 0

-- the node of a height and index over these leaves: the digest of its left and right child
unfoldable pub node : (ℕ → List ℕ) → (height index : ℕ) → List ℕ
node leaves zero j = leaves j
node leaves (suc h) j = sha256 (node leaves h (2 * j) ++ node leaves h (2 * j + 1))

-- the first height from n on at which a tree has so many leaves, where so many heights are tried
unfoldable pub height_from : (tries n count : ℕ) → ℕ
height_from zero n count = n
height_from (suc tries) n count = if nat_le count (2 ^ n) then n else height_from tries (n + 1) count

-- how many places a player's stream has
abbrev pub places : Game → ℕ
places game = 2 * game.turns

-- the least height at which a tree has a leaf for each place
unfoldable pub tree_height : Game → ℕ
tree_height game = height_from MOST_HEIGHT 0 (places game)

-- the node of this height and index in the tree of the seed's keys
abbrev pub node_of : Game → List ℕ → (height index : ℕ) → List ℕ
node_of game seed = node (leaf_of seed (places game))

-- the root of the seed's keys: the node over all leaves
abbrev pub root_of : Game → List ℕ → List ℕ
root_of game seed = node_of game seed (tree_height game) 0
