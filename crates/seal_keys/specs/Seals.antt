-- Seals: what is shown of the keys of a place to seal one frame, and when that is valid.
use Rattle.std.specs.Prelude.{ℕ, zero, suc, ◌+◌, ◌-◌, ◌*◌, ◌/◌, ◌%◌, ◌^◌, Bool, ◌&&◌, ◌==◌, List, ◌++◌, length, nat_lt, slice_index, if◌then◌else◌}
use Rattle.std.specs.Int.{bit_at}
use Rattle.std.specs.Str.{bytes_eq}
use Rattle.sha2.specs.Sha256.{sha256}
use Rattle.definitions.specs.declared.frames.TurnFrame.{TurnFrame}
use Rattle.definitions.specs.World.{Game}
use Rattle.definitions.specs.Logs.{turn_of}
use Rattle.definitions.specs.Answers.{place_of}
use Rattle.commitment.specs.Spelling.{frame_bytes}
use Rattle.seal_keys.specs.Parts.{joined_below, part_of}
use Rattle.seal_keys.specs.Keys.{secret, public_value, node_of, tree_height}

-- the digest of a frame in its session, which its seal is for
unfoldable pub message : Game → TurnFrame → List ℕ
message game f = sha256 (game.id ++ frame_bytes f)

-- bit i of a digest: bit 0 is the highest bit of the first byte
unfoldable pub bit_of : List ℕ → ℕ → ℕ
bit_of m i = bit_at (slice_index m (i / 8)) (7 - i % 8)

-- how many bytes a seal has: 256 disclosed values, 256 other public values, and the siblings
abbrev pub seal_len : Game → ℕ
seal_len game = 16384 + 32 * tree_height game

-- the index of the other child of a node's parent
abbrev pub sibling_of : ℕ → ℕ
sibling_of j = if j % 2 == 0 then j + 1 else j - 1

-- what a seal for digest m discloses of bit i: the secret of the bit's value
abbrev pub disclosed : List ℕ → ℕ → List ℕ → ℕ → List ℕ
disclosed seed k m i = secret seed k i (bit_of m i)

-- what it shows beside that: the public value of the bit's other value
abbrev pub other_public : List ℕ → ℕ → List ℕ → ℕ → List ℕ
other_public seed k m i = public_value seed k i (1 - bit_of m i)

-- the sibling at this height on the way from the leaf of place k to the root
abbrev pub sibling_at : Game → List ℕ → ℕ → ℕ → List ℕ
sibling_at game seed k h = node_of game seed h (sibling_of (k / 2 ^ h))

-- the seal of place k for digest m, by the keys of the seed
unfoldable pub seal_of : Game → List ℕ → ℕ → List ℕ → List ℕ
seal_of game seed k m =
    joined_below (disclosed seed k m) 256 ++ (joined_below (other_public seed k m) 256 ++ joined_below (sibling_at game seed k) (tree_height game))

-- the two public values of bit i that a seal for digest m shows, that of 0 first
unfoldable pub shown_pair : List ℕ → List ℕ → ℕ → List ℕ
shown_pair m seal i =
    if bit_of m i == 0 then sha256 (part_of seal i) ++ part_of seal (256 + i) else part_of seal (256 + i) ++ sha256 (part_of seal i)

-- the 512 public values that it shows
unfoldable pub shown : List ℕ → List ℕ → List ℕ
shown m seal = joined_below (shown_pair m seal) 256

-- the node of index j with its sibling, the left one first
unfoldable pub beside : ℕ → List ℕ → List ℕ → List ℕ
beside j own its_sibling = if j % 2 == 0 then own ++ its_sibling else its_sibling ++ own

-- The bytes whose digest is the node of height h on a seal's path to the root: at height 0 the 512
-- public values shown, above it the two children of the node.
unfoldable pub seal_path : List ℕ → List ℕ → ℕ → ℕ → List ℕ
seal_path m seal k zero = shown m seal
seal_path m seal k (suc h) = beside (k / 2 ^ h) (sha256 (seal_path m seal k h)) (part_of seal (512 + h))

-- the root to which a frame's seal leads
abbrev pub root_by_seal : Game → TurnFrame → List ℕ → List ℕ
root_by_seal game f seal = sha256 (seal_path (message game f) seal (place_of game f) (tree_height game))

-- The frame's turn is played, the seal has the length of the session's seals, and it leads to this
-- root.
unfoldable pub is_valid : Game → List ℕ → TurnFrame → List ℕ → Bool
is_valid game root f seal =
    nat_lt (turn_of f) game.turns && (length seal == seal_len game) && bytes_eq (root_by_seal game f seal) root
