-- Clashes: what frames that came show of their player.
use Rattle.std.specs.Prelude.{ℕ, Bool, false, ◌&&◌, ◌||◌, ◌*◌, List, [], ◌∷◌, Option, Some, None, min, max, nat_lt, filter, ◌==◌, if◌then◌else◌, option_map}
use Rattle.std.specs.List.{range_with_len}
use Rattle.definitions.specs.declared.frames.TurnFrame.{TurnFrame}
use Rattle.definitions.specs.declared.frames.TurnFrame.TheVariants.{Commit, Reveal}
use Rattle.definitions.specs.declared.findings.Kind.{Kind}
use Rattle.definitions.specs.declared.findings.Kind.TheVariants.{TwoCommits, BadOpening, Collision, Illegal}
use Rattle.definitions.specs.Lists.{first_of}
use Rattle.definitions.specs.World.{Game}
use Rattle.definitions.specs.Logs.{player_of, turn_of}
use Rattle.definitions.specs.Held.{Known, known_to}
use Rattle.definitions.specs.Findings as D
use Rattle.definitions.specs.Findings.{are_bad_opening, are_collision, are_two_commits, first_pair, is_commit, is_illegal_at, kinds}
use Rattle.peer_window.specs.declared.received.Received.{Received}
use Rattle.definitions.specs.declared.findings.Finding.{Finding}
use Rattle.peer_window.specs.Slots.{frames_in}

-- the two have one digest
abbrev pub same_digest : Game → Received → Received → Bool
same_digest game a b = D.same_digest game a.frame b.frame

-- what two entries of a log alone show of a player's turn
abbrev pub finding_by : (q t : ℕ) → Kind → (first second : ℕ) → Finding
finding_by q t kind a b = record { player = q; turn = t; kind = kind; first = record { log = 0; entry = a }; second = record { log = 0; entry = b } }

-- the clash of these two
abbrev pub clash_of : ℕ → ℕ → Kind → Received × Received → Finding
clash_of q t kind p = finding_by q t kind p.0.entry p.1.entry

-- those of the turn
abbrev pub of_turn : ℕ → List Received → List Received
of_turn t rs = filter (λ r. turn_of r.frame == t) rs

-- the first commitment among these
abbrev pub is_first : List Received → Received → Bool
is_first [] a = false
is_first (r ∷ rs) a = if is_commit r.frame then r.entry == a.entry else is_first rs a

-- the first commitment of the turn, and a reveal that opens it and is not legal after what is known of the turns before
abbrev pub are_illegal : Game → ℕ → ℕ → Known → List Received → Received → Received → Bool
are_illegal game q t k rs a b = is_first rs a && is_illegal_at game q t k b.frame

-- the two frames of the turn show this kind
abbrev pub show : Game → ℕ → ℕ → Known → List Received → Kind → Received → Received → Bool
show game q t k rs TwoCommits a b = are_two_commits game a.frame b.frame
show game q t k rs BadOpening a b = are_bad_opening game a.frame b.frame
show game q t k rs Collision a b = are_collision game a.frame b.frame
show game q t k rs Illegal a b = are_illegal game q t k rs a b || are_illegal game q t k rs b a

-- the clash of this kind among frames of the player's turn, by the least pair of entries
unfoldable pub clash_among : Game → ℕ → ℕ → Known → List Received → Kind → Option Finding
clash_among game q t k rs kind = option_map (clash_of q t kind) (first_pair (show game q t k rs kind) rs)

-- the first clash of the player's turn
unfoldable pub clash_in : Game → ℕ → List Received → ℕ → Option Finding
clash_in game q rs t = first_of (clash_among game q t (known_to game q (frames_in rs) (2 * game.turns)) (of_turn t rs)) kinds

-- the first clash of the player's frames, by turn and kind
unfoldable pub first_clash : Game → ℕ → List Received → Option Finding
first_clash game q rs = first_of (clash_in game q rs) (range_with_len 0 game.turns)

-- the lower of an entry's number and of that of another frame, if there is one
abbrev pub lower_entry : Received → Option Received → ℕ
lower_entry a None = a.entry
lower_entry a (Some b) = min a.entry b.entry

-- what a frame shows with the different one that is held at its place, and with the other one of the turn
abbrev pub rival_kind : Game → Received → Received → TurnFrame → Kind
rival_kind game held rival (Commit p t d) = TwoCommits
rival_kind game held rival (Reveal p t m n) = if same_digest game held rival then Collision else BadOpening

-- the number of the first entry of that pair
abbrev pub rival_first : Game → Received → Option Received → Received → TurnFrame → ℕ
rival_first game held other rival (Commit p t d) = held.entry
rival_first game held other rival (Reveal p t m n) = if same_digest game held rival then held.entry else lower_entry held other

-- the two together
abbrev pub rival_clash : Game → ℕ → Received → Option Received → Received → Finding
rival_clash game q held other rival = finding_by q (turn_of rival.frame) (rival_kind game held rival rival.frame) (rival_first game held other rival rival.frame) rival.entry

-- what a frame shows with the other one of its turn
abbrev pub opening_clash : Game → ℕ → Option Received → Received → Option Finding
opening_clash game q None r = None
opening_clash game q (Some other) r =
    if same_digest game other r then None
    else Some (finding_by q (turn_of r.frame) BadOpening other.entry r.entry)

-- there is a clash, and it is one of this turn
abbrev pub is_of : Option Finding → ℕ → Bool
is_of None t = false
is_of (Some a) t = a.turn == t

-- the first of two clashes, by turn; of one turn, the first of the two
abbrev pub lower_clash : Option Finding → Option Finding → Option Finding
lower_clash None b = b
lower_clash (Some a) None = Some a
lower_clash (Some a) (Some b) = if nat_lt b.turn a.turn then Some b else Some a

-- what an illegal reveal shows with the commitment that it opens
abbrev pub illegal_clash : Received → Received → Finding
illegal_clash a b = finding_by (player_of b.frame) (turn_of b.frame) Illegal (min a.entry b.entry) (max a.entry b.entry)
