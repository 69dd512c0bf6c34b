-- Spots: where a frame stands, at most once in each log.
use Rattle.std.specs.Prelude.{◌≡◌, ℕ, ◌<◌, ◌≤◌, Some, slice_get, List, [], ◌∷◌, ◌++◌, ◌==◌, if◌then◌else◌}
use Rattle.std.specs.List.{list_any}
use Rattle.definitions.specs.declared.findings.Spot.{Spot}
use Rattle.definitions.specs.declared.limits.TheConstants.{LONGEST_LOG}
use Rattle.definition_laws.specs.Members.{Has}
use Rattle.frame_index.specs.declared.limits.TheConstants.{MOST_LOGS}

-- the spots, in the order in which they came
pub record Spotted : Type 0 where
  pub items : List Spot

-- a spot of a log and of an entry for which an index has numbers
pub record IsInRange (s : Spot) : Type 0 where
  pub log : s.log < MOST_LOGS
  pub entry : s.entry < LONGEST_LOG

-- the spots with one more, unless its log has one
abbrev pub spot_noted : List Spot → Spot → List Spot
spot_noted spots s = if list_any (λ x. x.log == s.log) spots then spots else spots ++ s ∷ []

-- none of them is in a log above this one
abbrev pub AreUpTo : ℕ → List Spot → Type 0
AreUpTo top spots = (s : Spot) → Has spots s → s.log ≤ top

-- no two of them are in one log
abbrev pub AreOfLogs : List Spot → Type 0
AreOfLogs spots = (i j : ℕ) (s r : Spot) → slice_get spots i ≡ Some s → slice_get spots j ≡ Some r → s.log ≡ r.log → i ≡ j

-- all spots of a list: those that stand in it, or once they are more than a few those beside it
abbrev pub spots_in : List Spot → List Spot → List Spot
spots_in few [] = few
spots_in few (s ∷ many) = s ∷ many
