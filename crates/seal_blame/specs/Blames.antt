-- Blames: what a sealed frame shows that its player didn't make.
use Rattle.std.specs.Prelude.{◌≡◌, ◌≤◌, ◌<◌, ◌==◌, ℕ, ◌-◌, Bool, not, List, [], ◌∷◌, ◌++◌, Option, Some, None, slice_get, unwrap_or, find, if◌then◌else◌, ◌&&◌, true, false}
use Rattle.std.specs.List.{range_with_len}
use Rattle.std.specs.Str.{bytes_eq}
use Rattle.definitions.specs.declared.frames.TurnFrame.{TurnFrame}
use Rattle.definitions.specs.World.{Game}
use Rattle.definitions.specs.Answers.{place_of}
use Rattle.definition_laws.specs.Members.{Has}
use Rattle.commitment.specs.Spelling.{frame_bytes}
use Rattle.seal_keys.specs.Parts.{part_of}
use Rattle.seal_keys.specs.Keys.{secret, tree_height}
use Rattle.seal_keys.specs.Seals.{bit_of, is_valid, seal_path, message}
use Rattle.seal_keys.specs.Departures.{departure, discloses, key_path}
use Rattle.seal_keys.specs.Laws.{AreTwoStrings}
use Rattle.seal_keys.specs.States.{Keys}
use Rattle.seal_blame.specs.declared.how.How.{How}
use Rattle.seal_blame.specs.declared.how.How.TheVariants.{Message, Path, Value, Secret}

-- the digests differ in this bit
abbrev pub differ_in : List ℕ → List ℕ → ℕ → Bool
differ_in one other i = not (bit_of one i == bit_of other i)

-- the least of so many bits in which they do, if there is one
unfoldable pub first_of_bits : List ℕ → List ℕ → ℕ → Option ℕ
first_of_bits one other n = find (differ_in one other) (range_with_len 0 n)

-- the least bit in which the digests differ, and 0 where there is none
unfoldable pub first_bit : List ℕ → List ℕ → ℕ
first_bit one other = unwrap_or (first_of_bits one other 256) 0

-- the least bit in which digest m differs from that of the frame, 0 where there is no frame, and
-- none where it doesn't differ
unfoldable pub differing_bit : Game → Option TurnFrame → List ℕ → Option ℕ
differing_bit game None m = Some 0
differing_bit game (Some f) m = if bytes_eq (message game f) m then None else Some (first_bit (message game f) m)

-- the cause by bit i, by whether what is disclosed of it is the secret
abbrev pub by_value : ℕ → Bool → How
by_value i opened = if opened then Secret i else Value i

-- the cause by the greatest height at which the paths to the root depart, if there is one
abbrev pub by_path : Option ℕ → How → How
by_path None rest = rest
by_path (Some l) rest = Path l

-- the cause by the bit in which the digests differ, if there is one
abbrev pub by_bit : Option ℕ → (ℕ → How) → How
by_bit None rest = Message
by_bit (Some i) rest = rest i

-- The first of these that holds: the digest is that of the frame made at its place; the seal's path
-- to the root departs from the keys'; what is disclosed of the bit isn't the secret; it is.
unfoldable pub how_of : Keys → List TurnFrame → TurnFrame → List ℕ → How
how_of keys made f seal =
    by_bit (differing_bit keys.game (slice_get made (place_of keys.game f)) (message keys.game f))
    (λ i. by_path (departure keys.game keys.seed f seal) (by_value i (discloses keys.game keys.seed f seal i)))

-- one of the frames made has place k, and its seal discloses the secret of value v of bit i
pub record IsDisclosed (game : Game) (made : List TurnFrame) (k i v : ℕ) : Type 0 where
  pub frame : TurnFrame
  pub is_made : Has made frame
  pub place_is : place_of game frame ≡ k
  pub bit_is : bit_of (message game frame) i ≡ v

-- the session's id with the spelling of each frame, of the one made at the place and of this one:
-- two byte strings with one digest
pub record HasOneMessage (game : Game) (made : List TurnFrame) (f : TurnFrame) : Type 0 where
  pub own : TurnFrame
  pub is_made : slice_get made (place_of game f) ≡ Some own
  pub strings : AreTwoStrings (game.id ++ frame_bytes own) (game.id ++ frame_bytes f)

-- What the seal discloses of bit i is a secret that no seal of the frames made discloses. Where one
-- was made at the place, its seal discloses the secret of the bit's other value.
pub record IsNewSecret (keys : Keys) (made : List TurnFrame) (f : TurnFrame) (seal : List ℕ) (i : ℕ) : Type 0 where
  pub bit : i < 256
  pub is_secret : part_of seal i ≡ secret keys.seed (place_of keys.game f) i (bit_of (message keys.game f) i)
  pub is_new : IsDisclosed keys.game made (place_of keys.game f) i (bit_of (message keys.game f) i) → ⊥
  pub other : (own : TurnFrame) → slice_get made (place_of keys.game f) ≡ Some own → bit_of (message keys.game own) i ≡ 1 - bit_of (message keys.game f) i

-- what a cause shows: two byte strings with one digest, or a secret that the player's seals never
-- disclosed
abbrev pub ShowsSo : Keys → List TurnFrame → TurnFrame → List ℕ → How → Type 0
ShowsSo keys made f seal Message = HasOneMessage keys.game made f
ShowsSo keys made f seal (Path l) =
    (l ≤ tree_height keys.game) × AreTwoStrings (seal_path (message keys.game f) seal (place_of keys.game f) l) (key_path keys.game keys.seed (place_of keys.game f) l)
ShowsSo keys made f seal (Value i) =
    (i < 256) × AreTwoStrings (part_of seal i) (secret keys.seed (place_of keys.game f) i (bit_of (message keys.game f) i))
ShowsSo keys made f seal (Secret i) = IsNewSecret keys made f seal i

-- there are as many seals as frames, and each is valid for its frame under the root
abbrev pub are_valid : Game → List ℕ → List TurnFrame → List (List ℕ) → Bool
are_valid game root [] [] = true
are_valid game root [] (s ∷ ss) = false
are_valid game root (f ∷ fs) [] = false
are_valid game root (f ∷ fs) (s ∷ ss) = is_valid game root f s && are_valid game root fs ss

-- the frame of this number is not among those made, and all before it are
pub record IsFirstNew (made frames : List TurnFrame) (n : ℕ) : Type 0 where
  pub frame : TurnFrame
  pub stands : slice_get frames n ≡ Some frame
  pub is_new : Has made frame → ⊥
  pub before : (j : ℕ) (f : TurnFrame) → j < n → slice_get frames j ≡ Some f → Has made f

-- the cause is that of frame n and its seal, and shows what it says
pub record BlamesSo (keys : Keys) (made frames : List TurnFrame) (seals : List (List ℕ)) (n : ℕ) (how : How) : Type 0 where
  pub frame : TurnFrame
  pub seal : List ℕ
  pub frame_stands : slice_get frames n ≡ Some frame
  pub seal_stands : slice_get seals n ≡ Some seal
  pub how_is : how ≡ how_of keys made frame seal
  pub shown : ShowsSo keys made frame seal how
