-- InLog: what is kept of one log, and what it shows of an illegal move.
use Rattle.std.specs.Prelude.{◌≡◌, ◌<◌, List, [], true, false, ℕ, Bool, ◌&&◌, Option, Some, None, is_some, ◌==◌}
use Rattle.definitions.specs.declared.frames.TurnFrame.{TurnFrame}
use Rattle.definitions.specs.declared.logs.Entry.{Entry}
use Rattle.definitions.specs.World.{Game}
use Rattle.definitions.specs.Held.{commit_of}
use Rattle.definitions.specs.declared.findings.Spot.{Spot}
use Rattle.definitions.specs.Lists.{item_or}
use Rattle.definitions.specs.Findings.{Sighting, are_illegal, got_known, is_commit, is_illegal_at}
use Rattle.definition_laws.specs.Spots.{IsSighting}
use Rattle.frame_index.specs.declared.seen.Seen.{Seen}
use Rattle.frame_index.specs.Keeps.{IsLeast}
use Rattle.frame_index.specs.Pairs.{in_order}

-- it stands in the log, and the function takes its frame
abbrev pub takes : {Y : Type 0} → (TurnFrame → Option Y) → ℕ → Seen → Bool
takes g log k = (k.spot.log == log) && is_some (g k.frame)

-- what the function gives of the one that is there
abbrev pub taken : {Y : Type 0} → (TurnFrame → Option Y) → Option Seen → Option Y
taken g None = None
taken g (Some k) = g k.frame

-- what one log shows: its first commitment of the turn, and its first reveal that is wrong
pub record InOne (q t : ℕ) (kept : List Seen) (bad : ℕ → TurnFrame → Bool) (i : ℕ) (c r : Seen) : Type 0 where
  pub commit : IsLeast (takes (commit_of t) i) kept (Some c)
  pub wrong : IsLeast (λ k. (k.spot.log == i) && bad i k.frame) kept (Some r)

-- no log below this one shows an illegal reveal
abbrev pub NoneBelow : Game → ℕ → ℕ → List (List Entry) → ℕ → Type 0
NoneBelow game q t logs i = (a b : Sighting) → a.spot.log < i → IsSighting logs q t a → IsSighting logs q t b → are_illegal game q t logs a b ≡ true → ⊥

-- what the definitions say of a frame in a log, which has nothing past the logs
abbrev pub is_bad : Game → ℕ → ℕ → List (List Entry) → ℕ → TurnFrame → Bool
is_bad game q t logs i f = is_illegal_at game q t (got_known game q (item_or logs i [])) f

-- the log shows no illegal reveal, or the pair is that of its first commitment and its first illegal reveal
abbrev pub ShowsIn : Game → ℕ → ℕ → List (List Entry) → List Seen → ℕ → Option (Spot × Spot) → Type 0
ShowsIn game q t logs kept i None = (a b : Sighting) → a.spot.log ≡ i → IsSighting logs q t a → IsSighting logs q t b → are_illegal game q t logs a b ≡ true → ⊥
ShowsIn game q t logs kept i (Some p) = (c : Seen) × (r : Seen) × InOne q t kept (is_bad game q t logs) i c r × (is_commit r.frame ≡ false) × (p ≡ in_order r c)
