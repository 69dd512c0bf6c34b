-- Exhibits: the frames that are kept at spots, and the exhibit of a finding.
use Rattle.std.specs.Prelude.{◌≡◌, ◌<◌, ℕ, Bool, true, false, not, is_some, ◌&&◌, [], length, take, List, ◌++◌, Option, None, Some, find, ◌==◌, option_and_then, option_map}
use Rattle.definitions.specs.declared.findings.Spot.{Spot}
use Rattle.definitions.specs.declared.findings.Kind.{Kind}
use Rattle.definitions.specs.declared.findings.Kind.TheVariants.{TwoCommits, BadOpening, Collision, Illegal}
use Rattle.definitions.specs.declared.findings.Finding.{Finding}
use Rattle.definitions.specs.declared.world.Track.{Track}
use Rattle.definitions.specs.declared.frames.TurnFrame.{TurnFrame}
use Rattle.definitions.specs.declared.logs.Entry.{Entry}
use Rattle.definitions.specs.World.{Game}
use Rattle.definitions.specs.Findings.{got_known, is_commit}
use Rattle.definitions.specs.Lists.{item_or}
use Rattle.definitions.specs.Moves.{track_after}
use Rattle.definition_laws.specs.Members.{Has}
use Rattle.frame_index.specs.declared.seen.Seen.{Seen}
use Rattle.std.specs.Result.{result_ok}
use Rattle.frame_index.specs.Judged.{is_good, judged}
use Rattle.frame_index.specs.Wants.{least_from}
use Rattle.evidence.specs.declared.exhibit.Exhibit.{Exhibit}
use Rattle.evidence.specs.Showing.{commit_first, frames_of_finding, if_there, pair_at, turns_shown}
use Rattle.auditor.specs.declared.turns.Resolved.{Resolved}

-- the same spot
abbrev pub spot_eq : Spot → Spot → Bool
spot_eq a b = (a.log == b.log) && (a.entry == b.entry)

-- the frame that is kept with the spot
abbrev pub kept_at : List Seen → Spot → Option TurnFrame
kept_at kept s = option_map (λ k. k.frame) (find (λ k. spot_eq k.spot s) kept)

-- something is kept with the spot
abbrev pub IsKeptAt : List Seen → Spot → Type 0
IsKeptAt kept s = (k : Seen) × Has kept k × (k.spot ≡ s)

-- two frames, where both are there
abbrev pub both : Option TurnFrame → Option TurnFrame → List TurnFrame
both f g = if_there f ++ if_there g

-- both are there, and the first is no commitment
abbrev pub are_swapped : Option TurnFrame → Option TurnFrame → Bool
are_swapped None g = false
are_swapped (Some f) g = not (is_commit f) && is_some g

-- the finding is of an illegal move
abbrev pub is_illegal : Kind → Bool
is_illegal TwoCommits = false
is_illegal BadOpening = false
is_illegal Collision = false
is_illegal Illegal = true

-- these two frames as an exhibit has them: of an illegal move the commitment first
abbrev pub shown_by : Bool → List TurnFrame → List TurnFrame
shown_by false fs = fs
shown_by true fs = commit_first fs

-- the frames at the finding's spots, as its exhibit has them
abbrev pub pair_shown : List (List Entry) → Finding → List TurnFrame
pair_shown logs f = shown_by (is_illegal f.kind) (pair_at logs f)

-- the frames before these
abbrev pub before_pair : Bool → Game → List (List Entry) → Finding → List TurnFrame
before_pair false game logs f = []
before_pair true game logs f = turns_shown game f.player f.turn (item_or logs f.first.log [])

-- the log resolves the turn, and this is the player's track before it
abbrev pub IsBefore : Game → ℕ → ℕ → List Entry → Track → Type 0
IsBefore game q u h track = (u < length (got_known game q h).moves) × (track ≡ track_after game q (take u (got_known game q h).moves))

-- a commitment in the log
abbrev pub commits_in : ℕ → Seen → Bool
commits_in log k = (k.spot.log == log) && is_commit k.frame

-- the turn by its two frames and the track after it, if there is one
abbrev pub resolved_to : Seen → Seen → Option Track → Option Resolved
resolved_to c r None = None
resolved_to c r (Some track) = Some (record { commit = c.frame; reveal = r.frame; track = track })

-- the turn by its commitment, and its reveal, if there is one
abbrev pub resolved_with : Game → ℕ → Track → Seen → Option Seen → Option Resolved
resolved_with game q track c None = None
resolved_with game q track c (Some r) = resolved_to c r (option_and_then result_ok (judged game q track c.digest r))

-- the turn by its commitment, if there is one
abbrev pub resolved_from : Game → ℕ → Track → ℕ → List Seen → Option Seen → Option Resolved
resolved_from game q track log kept None = None
resolved_from game q track log kept (Some c) = resolved_with game q track c (least_from (is_good game q track c.digest log) None kept)

-- the turn that is resolved from the track by what is kept of the log
abbrev pub resolved_kept : Game → ℕ → Track → ℕ → List Seen → Option Resolved
resolved_kept game q track log kept = resolved_from game q track log kept (least_from (commits_in log) None kept)

-- the exhibit accuses whom the finding names, and has the frames by which it is shown
pub record IsExhibitOf (game : Game) (logs : List (List Entry)) (f : Finding) (x : Exhibit) : Type 0 where
  pub player : x.player ≡ f.player
  pub turn : x.turn ≡ f.turn
  pub kind : x.kind ≡ f.kind
  pub frames : x.frames ≡ frames_of_finding game logs f
