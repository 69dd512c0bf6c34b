-- Kept: what is kept of a player's turn, frame by frame.
use Rattle.std.specs.Prelude.{◌≡◌, ◌⊎◌, ◌≤◌, ℕ, Bool, true, if◌then◌else◌, List, [], ◌∷◌, ◌++◌, Some, flat_map, map, set, slice_get}
use Rattle.std.specs.Option.{is_some}
use Rattle.std.specs.Ordering.{nat_cmp}
use Rattle.std.specs.Cmp.Lexicographic.{slice_cmp}
use Rattle.std.specs.BTreeMap.{BTreeMap, get}
use Rattle.definitions.specs.declared.findings.Spot.{Spot}
use Rattle.definitions.specs.declared.openings.Digest.{Digest}
use Rattle.definitions.specs.declared.frames.TurnFrame.{TurnFrame}
use Rattle.definitions.specs.World.{Game}
use Rattle.definitions.specs.Held.{digest_of}
use Rattle.definitions.specs.Logs.{player_of, turn_of}
use Rattle.definitions.specs.Findings.{is_commit}
use Rattle.definition_laws.specs.Members.{Has}
use Rattle.frame_index.specs.declared.seen.Seen.{Seen}
use Rattle.frame_index.specs.declared.kept.KeptFrame.{KeptFrame}
use Rattle.frame_index.specs.declared.kept.TheConstants.{FEW}
use Rattle.frame_index.specs.Spots.{AreOfLogs, spot_noted}

-- a frame with its digest, at a spot
abbrev pub seen_with : TurnFrame → Digest → Spot → Seen
seen_with f d s = record { spot = s; frame = f; digest = d }

-- what is kept of the frame, once for each log that got it
abbrev pub seen_of : KeptFrame → List Seen
seen_of k = map (seen_with k.frame k.digest) k.spots.items

-- the same of all frames
abbrev pub seen_in : List KeptFrame → List Seen
seen_in ks = flat_map seen_of ks

-- the frame stands at the place
abbrev pub StandsAt : List KeptFrame → ℕ → TurnFrame → Type 0
StandsAt ks at f = (k : KeptFrame) × (slice_get ks at ≡ Some k) × (k.frame ≡ f)

-- the frame has these spots, and nothing else changes
abbrev pub HasSpots : List KeptFrame → List KeptFrame → ℕ → KeptFrame → List Spot → Type 0
HasSpots old new at k spots = (l : KeptFrame) × (l.frame ≡ k.frame) × (l.digest ≡ k.digest) × (l.spots.items ≡ spots) × (new ≡ set old at l)

-- the spot is noted of the frame at the place
abbrev pub IsNotedAt : List KeptFrame → List KeptFrame → ℕ → Spot → Type 0
IsNotedAt old new at s = (k : KeptFrame) × (slice_get old at ≡ Some k) × HasSpots old new at k (spot_noted k.spots.items s)

-- the frame stands behind the others, with its spot
abbrev pub IsAdded : List KeptFrame → List KeptFrame → TurnFrame → Digest → Spot → Type 0
IsAdded old new f d s = (l : KeptFrame) × (l.frame ≡ f) × (l.digest ≡ d) × (l.spots.items ≡ s ∷ []) × (new ≡ old ++ l ∷ [])

-- each frame is of this player's turn, and its digest is right
abbrev pub AreOf : Game → ℕ → ℕ → List KeptFrame → Type 0
AreOf game q t ks = (k : KeptFrame) → Has ks k → (player_of k.frame ≡ q) × (turn_of k.frame ≡ t) × (k.digest ≡ digest_of game k.frame)

-- no frame is kept twice, and none has two spots in one log
pub record AreOnce (ks : List KeptFrame) : Type 0 where
  pub frames : (i j : ℕ) (k l : KeptFrame) → slice_get ks i ≡ Some k → slice_get ks j ≡ Some l → k.frame ≡ l.frame → i ≡ j
  pub spots : (i : ℕ) (k : KeptFrame) → slice_get ks i ≡ Some k → AreOfLogs k.spots.items

-- the same frames with the same spots are kept
pub record AreAlike (old new : List KeptFrame) : Type 0 where
  pub own : (game : Game) (q t : ℕ) → AreOf game q t old → AreOf game q t new
  pub to : (k : Seen) → Has (seen_in old) k → Has (seen_in new) k
  pub fro : (k : Seen) → Has (seen_in new) k → Has (seen_in old) k
  pub once : AreOnce old → AreOnce new

-- the frame that a log got, with its right digest
abbrev pub sight : Game → TurnFrame → Spot → Seen
sight game f s = seen_with f (digest_of game f) s

-- the frame is kept with this spot, or with an earlier one of its log, and nothing else is new
pub record Grows (game : Game) (f : TurnFrame) (s : Spot) (old new : List KeptFrame) : Type 0 where
  pub own : (q t : ℕ) → AreOf game q t old → player_of f ≡ q → turn_of f ≡ t → AreOf game q t new
  pub stay : (k : Seen) → Has (seen_in old) k → Has (seen_in new) k
  pub come : (q t : ℕ) → AreOf game q t old → (k : Seen) → Has (seen_in new) k → Has (seen_in old) k ⊎ (sight game f s ≡ k)
  pub one : (q t : ℕ) → AreOf game q t old → Has (seen_in new) (sight game f s) ⊎ ((k : Seen) × Has (seen_in old) k × (k.spot.log ≡ s.log) × (k.frame ≡ f))
  pub once : (q t : ℕ) → AreOf game q t old → AreOnce old → AreOnce new

-- ---- many frames of a turn are looked for by what they are and by their digests

abbrev pub key_bytes : TurnFrame → Digest → List ℕ
key_bytes f d = d.bytes ++ (if is_commit f then 1 else 0) ∷ []

abbrev pub has_place : BTreeMap (List ℕ) ℕ → List ℕ → Bool
has_place places key = is_some (get (slice_cmp nat_cmp) places key)

-- each frame but the first few has a place in the table
abbrev pub HavePlaces : List KeptFrame → BTreeMap (List ℕ) ℕ → Type 0
HavePlaces ks places = (at : ℕ) (k : KeptFrame) → FEW ≤ at → slice_get ks at ≡ Some k → has_place places (key_bytes k.frame k.digest) ≡ true

-- where they did, they do
abbrev pub KeepPlaces : List KeptFrame → List KeptFrame → Type 0
KeepPlaces old new = (places : BTreeMap (List ℕ) ℕ) → HavePlaces old places → HavePlaces new places

abbrev pub StayPlaces : BTreeMap (List ℕ) ℕ → BTreeMap (List ℕ) ℕ → Type 0
StayPlaces old new = (key : List ℕ) → has_place old key ≡ true → has_place new key ≡ true

-- what contracts see of it
pub record Keeping : Type 0 where
  pub items : List KeptFrame

pub record TurnKept : Type 0 where
  pub kept : Keeping
