-- Laws of keys and seals.
use Rattle.std.specs.Prelude.{◌≡◌, ◌≤◌, ◌<◌, ℕ, ◌^◌, List, Some, None, IsTrue}
use Rattle.sha2.specs.Sha256.{sha256}
use Rattle.definitions.specs.declared.frames.TurnFrame.{TurnFrame}
use Rattle.definitions.specs.World.{Game}
use Rattle.definitions.specs.Logs.{turn_of}
use Rattle.definitions.specs.Answers.{place_of}
use Rattle.definitions.specs.declared.limits.TheConstants.{MOST_TURNS}
use Rattle.seal_keys.specs.Parts.{part_of}
use Rattle.seal_keys.specs.Keys.{places, root_of, secret, tree_height}
use Rattle.seal_keys.specs.Seals.{bit_of, is_valid, message, seal_of, seal_path}
use Rattle.seal_keys.specs.Departures.{departure, key_path}

-- a tree of this height has a leaf for each place, and no lower tree has
pub record IsLeastHeight (game : Game) (n : ℕ) : Type 0 where
  pub enough : places game ≤ 2 ^ n
  pub least : (m : ℕ) → m < n → 2 ^ m < places game

-- the height of a session's tree is the least
abbrev pub HeightsAreLeast : Type 0
HeightsAreLeast = (game : Game) → game.turns ≤ MOST_TURNS → IsLeastHeight game (tree_height game)

-- a frame's seal is valid under the root of its keys
abbrev pub SealsAreValid : Type 0
SealsAreValid = (game : Game) (seed : List ℕ) (f : TurnFrame) → game.turns ≤ MOST_TURNS → turn_of f < game.turns → place_of game f < places game →
    IsTrue (is_valid game (root_of game seed) f (seal_of game seed (place_of game f) (message game f)))

-- a seal of place k for digest m discloses of each bit the secret of the bit's value in m
abbrev pub SealsDiscloseTheirBits : Type 0
SealsDiscloseTheirBits = (game : Game) (seed : List ℕ) (k i : ℕ) (m : List ℕ) → i < 256 → part_of (seal_of game seed k m) i ≡ secret seed k i (bit_of m i)

-- two different byte strings with one SHA-256 digest
pub record AreTwoStrings (a b : List ℕ) : Type 0 where
  pub differ : a ≡ b → ⊥
  pub one_digest : sha256 a ≡ sha256 b

-- Where a valid seal departs from the keys, what the two paths hash at the greatest such height are
-- two byte strings with one digest.
abbrev pub DeparturesAreTwoStrings : Type 0
DeparturesAreTwoStrings = (game : Game) (seed : List ℕ) (f : TurnFrame) (seal : List ℕ) (h : ℕ) → game.turns ≤ MOST_TURNS → place_of game f < places game →
    IsTrue (is_valid game (root_of game seed) f seal) → departure game seed f seal ≡ Some h →
    (h ≤ tree_height game) × AreTwoStrings (seal_path (message game f) seal (place_of game f) h) (key_path game seed (place_of game f) h)

-- Where it departs nowhere, what it discloses of each bit has the digest of the secret of the
-- frame's place, of the bit and of its value.
abbrev pub DisclosedValuesHashAlike : Type 0
DisclosedValuesHashAlike = (game : Game) (seed : List ℕ) (f : TurnFrame) (seal : List ℕ) (i : ℕ) → IsTrue (is_valid game (root_of game seed) f seal) →
    departure game seed f seal ≡ None → i < 256 → sha256 (part_of seal i) ≡ sha256 (secret seed (place_of game f) i (bit_of (message game f) i))
