-- Departures: where a seal's path to the root departs from that of the keys.
use Rattle.std.specs.Prelude.{ℕ, zero, suc, ◌+◌, ◌*◌, ◌/◌, ◌^◌, Bool, not, List, ◌++◌, Option, Some, None, if◌then◌else◌}
use Rattle.std.specs.Str.{bytes_eq}
use Rattle.definitions.specs.declared.frames.TurnFrame.{TurnFrame}
use Rattle.definitions.specs.World.{Game}
use Rattle.definitions.specs.Answers.{place_of}
use Rattle.seal_keys.specs.Parts.{part_of}
use Rattle.seal_keys.specs.Keys.{node_of, publics, secret, tree_height}
use Rattle.seal_keys.specs.Seals.{bit_of, message, seal_path}

-- the greatest number below this one at which the test passes
unfoldable pub last_below : (ℕ → Bool) → ℕ → Option ℕ
last_below test zero = None
last_below test (suc n) = if test n then Some n else last_below test n

-- The bytes whose digest is the node of height h on the keys' path from place k to the root: at
-- height 0 the 512 public values of the place, above it the two children of the node.
unfoldable pub key_path : Game → List ℕ → ℕ → ℕ → List ℕ
key_path game seed k zero = publics seed k
key_path game seed k (suc h) = node_of game seed h (2 * (k / 2 ^ suc h)) ++ node_of game seed h (2 * (k / 2 ^ suc h) + 1)

-- the two paths hash different bytes at this height
unfoldable pub departs_at : Game → List ℕ → TurnFrame → List ℕ → ℕ → Bool
departs_at game seed f seal h = not (bytes_eq (seal_path (message game f) seal (place_of game f) h) (key_path game seed (place_of game f) h))

-- the greatest height at which they do, if there is one
unfoldable pub departure : Game → List ℕ → TurnFrame → List ℕ → Option ℕ
departure game seed f seal = last_below (departs_at game seed f seal) (tree_height game + 1)

-- what the seal discloses of bit i is the secret of the frame's place and of the bit's value
abbrev pub discloses : Game → List ℕ → TurnFrame → List ℕ → ℕ → Bool
discloses game seed f seal i = bytes_eq (part_of seal i) (secret seed (place_of game f) i (bit_of (message game f) i))
