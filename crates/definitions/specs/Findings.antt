-- Findings: two frames that show that a player broke the protocol.
use Rattle.std.specs.Prelude.{◌≡◌, ◌⊎◌, ◌<◌, IsTrue, ℕ, ◌+◌, ◌*◌, Bool, true, false, not, ◌&&◌, ◌||◌, List, [], ◌∷◌, ◌++◌, Option, Some, None, length, flat_map, filter_map, nat_le, take, slice_get, find, option_map, ◌==◌, if◌then◌else◌}
use Rattle.std.specs.List.{range_with_len}
use Rattle.std.specs.Option.{option_or}
use Rattle.definitions.specs.declared.world.Move.{Move}
use Rattle.definitions.specs.declared.openings.Digest.{Digest}
use Rattle.definitions.specs.declared.frames.TurnFrame.{TurnFrame}
use Rattle.definitions.specs.declared.frames.TurnFrame.TheVariants.{Commit, Reveal}
use Rattle.definitions.specs.declared.logs.Entry.{Entry}
use Rattle.definitions.specs.declared.logs.Entry.TheVariants.{Chose, Made, Got}
use Rattle.definitions.specs.declared.findings.Kind.{Kind}
use Rattle.definitions.specs.declared.findings.Kind.TheVariants.{TwoCommits, BadOpening, Collision, Illegal}
use Rattle.definitions.specs.declared.findings.Spot.{Spot}
use Rattle.definitions.specs.declared.findings.Finding.{Finding}
use Rattle.definitions.specs.Lists.{is_empty, item_or, EachIs}
use Rattle.definitions.specs.World.{Game, players_of}
use Rattle.definitions.specs.Moves.{is_legal, track_after}
use Rattle.definitions.specs.Logs.{digest_eq, frame_eq, got_of, turn_of}
use Rattle.definitions.specs.Held.{Known, digest_of, known_to}

-- a frame that was got, and where it stands
pub record Sighting : Type 0 where
  pub spot : Spot
  pub frame : TurnFrame

-- the frame of this player and turn that the entry got
abbrev pub sighting_at : ℕ → ℕ → ℕ → ℕ → Entry → List Sighting
sighting_at q t log i (Chose u m n) = []
sighting_at q t log i (Made f) = []
sighting_at q t log i (Got p f) =
    if (p == q) && (turn_of f == t) then record { spot = record { log = log; entry = i }; frame = f } ∷ [] else []

-- those of a log from its entry i on
unfoldable pub sightings_from : ℕ → ℕ → ℕ → ℕ → List Entry → List Sighting
sightings_from q t log i [] = []
sightings_from q t log i (e ∷ es) = sighting_at q t log i e ++ sightings_from q t log (i + 1) es

-- those of the logs from the number on, in the order of their spots
unfoldable pub sightings : ℕ → ℕ → ℕ → List (List Entry) → List Sighting
sightings q t log [] = []
sightings q t log (h ∷ hs) = sightings_from q t log 0 h ++ sightings q t (log + 1) hs

-- a reveal
abbrev pub is_reveal : TurnFrame → Bool
is_reveal (Commit p t d) = false
is_reveal (Reveal p t m n) = true

-- the two frames have one digest
abbrev pub same_digest : Game → TurnFrame → TurnFrame → Bool
same_digest game f g = digest_eq (digest_of game f) (digest_of game g)

-- a commitment
abbrev pub is_commit : TurnFrame → Bool
is_commit f = not (is_reveal f)

-- two commitments with different digests
abbrev pub are_two_commits : Game → TurnFrame → TurnFrame → Bool
are_two_commits game f g = is_commit f && is_commit g && not (same_digest game f g)

-- at least one is a reveal, and their digests differ
abbrev pub are_bad_opening : Game → TurnFrame → TurnFrame → Bool
are_bad_opening game f g = (is_reveal f || is_reveal g) && not (same_digest game f g)

-- two reveals with different openings and one digest
abbrev pub are_collision : Game → TurnFrame → TurnFrame → Bool
are_collision game f g = is_reveal f && is_reveal g && not (frame_eq f g) && same_digest game f g

-- what the frames that were got show of the player in this log, the owner's own entries aside
abbrev pub got_known : Game → ℕ → List Entry → Known
got_known game q h = known_to game q (got_of q h) (2 * game.turns)

-- the frame's digest is this one
abbrev pub opens : Game → TurnFrame → Option Digest → Bool
opens game f None = false
opens game f (Some d) = digest_eq (digest_of game f) d

-- the reveal's move is not legal after these
abbrev pub is_illegal_after : Game → ℕ → List Move → TurnFrame → Bool
is_illegal_after game q before (Commit p u d) = false
is_illegal_after game q before (Reveal p u m n) = not (is_legal game q (track_after game q before) m)

-- the turns before this one are resolved, and the frame opens the digest held and is not legal after them
abbrev pub is_illegal_at : Game → ℕ → ℕ → Known → TurnFrame → Bool
is_illegal_at game q t k f =
    nat_le t (length k.moves) && opens game f (slice_get k.digests t) && is_illegal_after game q (take t k.moves) f

-- the sighting is of the first commitment among these
abbrev pub is_first_commit : List Sighting → Sighting → Bool
is_first_commit [] a = false
is_first_commit (s ∷ ss) a =
    if is_commit s.frame then s.spot.entry == a.spot.entry else is_first_commit ss a

-- in one log: the first commitment of the turn, and a reveal that opens it and is not legal
unfoldable pub are_illegal : Game → ℕ → ℕ → List (List Entry) → Sighting → Sighting → Bool
are_illegal game q t logs a b =
    (a.spot.log == b.spot.log) &&
    is_first_commit (sightings_from q t a.spot.log 0 (item_or logs a.spot.log [])) a &&
    is_illegal_at game q t (got_known game q (item_or logs a.spot.log [])) b.frame

-- the two sightings show this kind
unfoldable pub show_kind : Game → ℕ → ℕ → List (List Entry) → Kind → Sighting → Sighting → Bool
show_kind game q t logs TwoCommits a b = are_two_commits game a.frame b.frame
show_kind game q t logs BadOpening a b = are_bad_opening game a.frame b.frame
show_kind game q t logs Collision a b = are_collision game a.frame b.frame
show_kind game q t logs Illegal a b = are_illegal game q t logs a b || are_illegal game q t logs b a

-- the first of these after which another passes the test, with the first that does
unfoldable pub first_pair : {X : Type 0} → (X → X → Bool) → List X → Option (X × X)
first_pair test [] = None
first_pair test (x ∷ xs) = option_or (option_map (λ y. (x, y)) (find (test x) xs)) (first_pair test xs)

-- the finding that carries the two sightings
abbrev pub finding_of : ℕ → ℕ → Kind → Sighting × Sighting → Finding
finding_of q t kind p = record { player = q; turn = t; kind = kind; first = p.0.spot; second = p.1.spot }

-- the finding of the player, turn and kind in these logs, by the least pair of spots
unfoldable pub finding_at : Game → List (List Entry) → ℕ → ℕ → Kind → Option Finding
finding_at game logs q t kind =
    option_map (finding_of q t kind) (first_pair (show_kind game q t logs kind) (sightings q t 0 logs))

-- the kinds in their order
abbrev pub kinds : List Kind
kinds = TwoCommits ∷ BadOpening ∷ Collision ∷ Illegal ∷ []

-- the findings of a player's turn
unfoldable pub findings_in : Game → List (List Entry) → ℕ → ℕ → List Finding
findings_in game logs q t = filter_map (finding_at game logs q t) kinds

-- the findings in these logs, by player, turn and kind
unfoldable pub findings : Game → List (List Entry) → List Finding
findings game logs =
    flat_map (λ q. flat_map (findings_in game logs q) (range_with_len 0 game.turns))
    (range_with_len 0 (players_of game))

-- no findings
unfoldable pub is_clean : Game → List Entry → Bool
is_clean game h = is_empty (findings game (h ∷ []))

-- a kind's number in the order of kinds
abbrev pub kind_rank : Kind → ℕ
kind_rank TwoCommits = 0
kind_rank BadOpening = 1
kind_rank Collision = 2
kind_rank Illegal = 3

-- lower by player, then by turn, then by kind
abbrev pub ComesBefore : Finding → Finding → Type 0
ComesBefore f g =
    (f.player < g.player) ⊎ ((f.player ≡ g.player) ×
    ((f.turn < g.turn) ⊎ ((f.turn ≡ g.turn) × (kind_rank f.kind < kind_rank g.kind))))

-- each comes before all that stand behind it
abbrev pub IsOrdered : List Finding → Type 0
IsOrdered [] = Unit {0}
IsOrdered (f ∷ fs) = EachIs (ComesBefore f) fs × IsOrdered fs

-- two sightings of the player's turn in these logs, the lower first, that show the finding's kind
pub record IsShown (game : Game) (logs : List (List Entry)) (f : Finding) : Type 0 where
  pub lower : Sighting
  pub higher : Sighting
  pub front : List Sighting
  pub between : List Sighting
  pub back : List Sighting
  pub stand : sightings f.player f.turn 0 logs ≡ front ++ lower ∷ (between ++ higher ∷ back)
  pub first_is : f.first ≡ lower.spot
  pub second_is : f.second ≡ higher.spot
  pub shown : IsTrue (show_kind game f.player f.turn logs f.kind lower higher)
