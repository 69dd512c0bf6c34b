-- Showing: the frames by which a finding is shown without the logs.
use Rattle.std.specs.Prelude.{ℕ, List, [], ◌∷◌, ◌++◌, Option, Some, None, find, flat_map, is_some, slice_get, take, if◌then◌else◌}
use Rattle.std.specs.List.{range_with_len}
use Rattle.definitions.specs.declared.openings.Digest.{Digest}
use Rattle.definitions.specs.declared.frames.TurnFrame.{TurnFrame}
use Rattle.definitions.specs.declared.logs.Entry.{Entry}
use Rattle.definitions.specs.declared.logs.Entry.TheVariants.{Chose, Made, Got}
use Rattle.definitions.specs.declared.findings.Kind.{Kind}
use Rattle.definitions.specs.declared.findings.Kind.TheVariants.{TwoCommits, BadOpening, Collision, Illegal}
use Rattle.definitions.specs.declared.findings.Spot.{Spot}
use Rattle.definitions.specs.declared.findings.Finding.{Finding}
use Rattle.definitions.specs.Lists.{item_or}
use Rattle.definitions.specs.World.{Game}
use Rattle.definitions.specs.Logs.{got_of}
use Rattle.definitions.specs.Held.{Known, commit_of, opening_of}
use Rattle.definitions.specs.Findings.{got_known, is_commit}

-- the frame that the entry got, if it got one
abbrev pub frame_got : Option Entry → List TurnFrame
frame_got None = []
frame_got (Some (Chose t m n)) = []
frame_got (Some (Made f)) = []
frame_got (Some (Got q f)) = f ∷ []

-- the frame that was got at this spot
abbrev pub frame_at : List (List Entry) → Spot → List TurnFrame
frame_at logs s = frame_got (slice_get (item_or logs s.log []) s.entry)

-- the frames at the finding's two spots, the lower first
abbrev pub pair_at : List (List Entry) → Finding → List TurnFrame
pair_at logs f = frame_at logs f.first ++ frame_at logs f.second

-- of two frames the commitment first
abbrev pub commit_first : List TurnFrame → List TurnFrame
commit_first [] = []
commit_first (f ∷ []) = f ∷ []
commit_first (f ∷ g ∷ fs) = if is_commit f then f ∷ g ∷ fs else g ∷ f ∷ fs

-- the frame, if it is there
abbrev pub if_there : Option TurnFrame → List TurnFrame
if_there None = []
if_there (Some f) = f ∷ []

-- the first of these frames that opens the turn's digest by a move that is legal after the moves of the turns before, where
-- a digest is held
abbrev pub resolving : Game → ℕ → Known → List TurnFrame → ℕ → Option Digest → Option TurnFrame
resolving game q k fs t None = None
resolving game q k fs t (Some d) = find (λ f. is_some (opening_of game q (take t k.moves) d t f)) fs

-- the first commitment to the turn among these frames, and the first reveal that resolves it
abbrev pub turn_shown : Game → ℕ → Known → List TurnFrame → ℕ → List TurnFrame
turn_shown game q k fs t = if_there (find (λ f. is_some (commit_of t f)) fs) ++ if_there (resolving game q k fs t (slice_get k.digests t))

-- those of each turn before this one, as the log got them of the player
unfoldable pub turns_shown : Game → ℕ → ℕ → List Entry → List TurnFrame
turns_shown game q t h = flat_map (turn_shown game q (got_known game q h) (got_of q h)) (range_with_len 0 t)

-- the frames that show this kind of the finding's player and turn
abbrev pub frames_by : Game → List (List Entry) → Finding → Kind → List TurnFrame
frames_by game logs f TwoCommits = pair_at logs f
frames_by game logs f BadOpening = pair_at logs f
frames_by game logs f Collision = pair_at logs f
frames_by game logs f Illegal = turns_shown game f.player f.turn (item_or logs f.first.log []) ++ commit_first (pair_at logs f)

-- the frames by which the finding is shown: those at its two spots, and of an illegal move before them the frames by which the turns
-- before were resolved
unfoldable pub frames_of_finding : Game → List (List Entry) → Finding → List TurnFrame
frames_of_finding game logs f = frames_by game logs f f.kind
