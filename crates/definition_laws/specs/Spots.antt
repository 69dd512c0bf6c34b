-- Spots: sightings in the words of logs and their entries, and which pair of them is the least.
use Rattle.std.specs.Prelude.{◌≡◌, ℕ, ◌<◌, ◌⊎◌, List, Some, slice_get, IsTrue}
use Rattle.definitions.specs.declared.logs.Entry.{Entry}
use Rattle.definitions.specs.declared.logs.Entry.TheVariants.{Chose, Got, Made}
use Rattle.definitions.specs.declared.openings.Opening.{Opening}
use Rattle.definitions.specs.declared.frames.TurnFrame.{TurnFrame}
use Rattle.definitions.specs.declared.frames.TurnFrame.TheVariants.{Commit, Reveal}
use Rattle.definitions.specs.declared.frames.What.TheVariants as W
use Rattle.sha2.specs.Sha256.{sha256}
use Rattle.definitions.specs.Lists.{EachIs}
use Rattle.definitions.specs.Openings.{opening, FitsOpening}
use Rattle.definitions.specs.Advance.{frame_of}
use Rattle.definitions.specs.declared.findings.Spot.{Spot}
use Rattle.definitions.specs.declared.findings.Finding.{Finding}
use Rattle.definitions.specs.World.{Game}
use Rattle.definitions.specs.Logs.{turn_of}
use Rattle.definitions.specs.Findings.{Sighting, findings, show_kind}
use Rattle.definitions.specs.declared.findings.Kind.TheVariants.{TwoCommits, Collision}
use Rattle.definition_laws.specs.Members.{Has}

-- lower by the log's number, then by the entry's
abbrev pub SpotBefore : Spot → Spot → Type 0
SpotBefore s t = (s.log < t.log) ⊎ ((s.log ≡ t.log) × (s.entry < t.entry))

-- the entry at the sighting's spot got its frame, of this turn, from the player
pub record IsSighting (logs : List (List Entry)) (q t : ℕ) (s : Sighting) : Type 0 where
  pub log : List Entry
  pub there : slice_get logs s.spot.log ≡ Some log
  pub got : slice_get log s.spot.entry ≡ Some (Got q s.frame)
  pub turn : turn_of s.frame ≡ t

-- the finding's spots are those of two sightings that show its kind, and of all such pairs the least
pub record IsLeastPair (game : Game) (logs : List (List Entry)) (f : Finding) : Type 0 where
  pub lower : Sighting
  pub higher : Sighting
  pub first_is : f.first ≡ lower.spot
  pub second_is : f.second ≡ higher.spot
  pub lower_seen : IsSighting logs f.player f.turn lower
  pub higher_seen : IsSighting logs f.player f.turn higher
  pub in_order : SpotBefore lower.spot higher.spot
  pub shown : IsTrue (show_kind game f.player f.turn logs f.kind lower higher)
  pub least :
      (a b : Sighting) → IsSighting logs f.player f.turn a → IsSighting logs f.player f.turn b → SpotBefore a.spot b.spot →
      IsTrue (show_kind game f.player f.turn logs f.kind a b) →
      SpotBefore f.first a.spot ⊎ ((f.first ≡ a.spot) × (SpotBefore f.second b.spot ⊎ (f.second ≡ b.spot)))

-- the numbers of a reveal fit their fields
abbrev pub FitsFrame : TurnFrame → Type 0
FitsFrame (Commit p t d) = Unit {0}
FitsFrame (Reveal p t m n) = FitsOpening (record { player = p; turn = t; mv = m; nonce = n })

-- the numbers of a frame that was got fit their fields
abbrev pub GotFits : Entry → Type 0
GotFits (Chose t m n) = Unit {0}
GotFits (Made f) = Unit {0}
GotFits (Got q f) = FitsFrame f

-- the numbers of all frames that the logs got fit their fields
abbrev pub AllFit : List (List Entry) → Type 0
AllFit logs = EachIs (λ h. EachIs GotFits h) logs

-- the finding's spots are those of two reveals whose openings are two byte strings with one SHA-256 digest
pub record IsCollision (game : Game) (logs : List (List Entry)) (f : Finding) : Type 0 where
  pub one : Opening
  pub other : Opening
  pub first_is : IsSighting logs f.player f.turn (record { spot = f.first; frame = frame_of game W.Reveal one })
  pub second_is : IsSighting logs f.player f.turn (record { spot = f.second; frame = frame_of game W.Reveal other })
  pub bytes_differ : opening game.id one ≡ opening game.id other → ⊥
  pub one_digest : sha256 (opening game.id one) ≡ sha256 (opening game.id other)

-- the finding is listed, of the player's turn, and shows two commitments or a collision
abbrev pub ShowsTwoFaces : Game → List (List Entry) → ℕ → ℕ → Finding → Type 0
ShowsTwoFaces game logs q t f = Has (findings game logs) f × (f.player ≡ q) × (f.turn ≡ t) × ((f.kind ≡ TwoCommits) ⊎ (f.kind ≡ Collision))
