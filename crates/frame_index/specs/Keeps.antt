-- Keeps: what an index keeps of a player's turn, and the least pair of what is kept.
use Rattle.std.specs.Prelude.{◌≡◌, ℕ, ◌≤◌, ◌⊎◌, Bool, true, List, Option, Some, None}
use Rattle.definitions.specs.declared.findings.Spot.{Spot}
use Rattle.definitions.specs.declared.findings.Kind.{Kind}
use Rattle.definitions.specs.declared.findings.Finding.{Finding}
use Rattle.definitions.specs.declared.frames.TurnFrame.{TurnFrame}
use Rattle.definitions.specs.declared.logs.Entry.{Entry}
use Rattle.definitions.specs.World.{Game}
use Rattle.definitions.specs.Held.{digest_of}
use Rattle.definitions.specs.Findings.{Sighting}
use Rattle.definition_laws.specs.Members.{Has}
use Rattle.definition_laws.specs.Spots.{IsSighting, SpotBefore}
use Rattle.frame_index.specs.declared.seen.Seen.{Seen}

-- what is kept, as a sighting
abbrev pub sighting_of : Seen → Sighting
sighting_of s = record { spot = s.spot; frame = s.frame }

-- the frame of the sighting is kept with this spot, which is in the same log and no later
pub record IsFirstOf (k : Seen) (s : Sighting) : Type 0 where
  pub frame : k.frame ≡ s.frame
  pub log : k.spot.log ≡ s.spot.log
  pub entry : k.spot.entry ≤ s.spot.entry

-- each different frame of the player's turn is kept with its first spot in each log that got it
pub record Keeps (game : Game) (q t : ℕ) (logs : List (List Entry)) (kept : List Seen) : Type 0 where
  pub within : (k : Seen) → Has kept k → IsSighting logs q t (sighting_of k)
  pub digests : (k : Seen) → Has kept k → k.digest ≡ digest_of game k.frame
  pub firsts : (s : Sighting) → IsSighting logs q t s → (k : Seen) × Has kept k × IsFirstOf k s

-- the first is lower, or they are one
abbrev pub NotAfter : Spot → Spot → Type 0
NotAfter s t = SpotBefore s t ⊎ (s ≡ t)

-- the one with the least spot of those that pass
abbrev pub IsLeast : (Seen → Bool) → List Seen → Option Seen → Type 0
IsLeast p ss None = (s : Seen) → Has ss s → p s ≡ true → ⊥
IsLeast p ss (Some m) = Has ss m × (p m ≡ true) × ((s : Seen) → Has ss s → p s ≡ true → NotAfter m.spot s.spot)

-- the lower spot is the least of a frame that has a partner by the test, and the higher the least of its partners
pub record IsPair (test : TurnFrame → TurnFrame → Bool) (kept : List Seen) (p : Spot × Spot) : Type 0 where
  pub lower : Seen
  pub higher : Seen
  pub lower_in : Has kept lower
  pub higher_in : Has kept higher
  pub first_is : p.0 ≡ lower.spot
  pub second_is : p.1 ≡ higher.spot
  pub shown : test lower.frame higher.frame ≡ true
  pub least :
      (a b : Seen) → Has kept a → Has kept b → test a.frame b.frame ≡ true →
      NotAfter lower.spot a.spot × (lower.spot ≡ a.spot → NotAfter higher.spot b.spot)

abbrev pub IsLeastOf : (TurnFrame → TurnFrame → Bool) → List Seen → Option (Spot × Spot) → Type 0
IsLeastOf test kept None = (a b : Seen) → Has kept a → Has kept b → test a.frame b.frame ≡ true → ⊥
IsLeastOf test kept (Some p) = IsPair test kept p

-- the finding with this pair of spots, if there is one
abbrev pub finding_by : ℕ → ℕ → Kind → Option (Spot × Spot) → Option Finding
finding_by q t kind None = None
finding_by q t kind (Some p) = Some (record { player = q; turn = t; kind = kind; first = p.0; second = p.1 })
