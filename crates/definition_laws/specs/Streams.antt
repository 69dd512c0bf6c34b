-- Laws on streams: which frame stands at a place, and what is known of a player.
use Rattle.std.specs.Prelude.{take, ◌≡◌, ℕ, ◌+◌, ◌*◌, ◌<◌, ◌≤◌, ◌⊎◌, ◌↔◌, List, ◌∷◌, ◌++◌, None, Some, IsSome}
use Rattle.definitions.specs.declared.world.Move.{Move}
use Rattle.definitions.specs.declared.openings.Digest.{Digest}
use Rattle.definitions.specs.declared.frames.TurnFrame.{TurnFrame}
use Rattle.definitions.specs.declared.frames.TurnFrame.TheVariants as F
use Rattle.definitions.specs.declared.frames.What.TheVariants.{Commit, Reveal}
use Rattle.definitions.specs.declared.logs.Entry.{Entry}
use Rattle.definitions.specs.Lists.{EachIs}
use Rattle.definitions.specs.World.{Game}
use Rattle.definitions.specs.Moves.{AreLegal}
use Rattle.definitions.specs.Places.{commit_place, reveal_place, slot_at}
use Rattle.definitions.specs.Logs.{frames_of}
use Rattle.definitions.specs.Findings.{got_known}
use Rattle.definitions.specs.Held.{commit_of, held, known, next_place, opening_of, resolved}

-- committing one turn ahead, commitments and reveals take turns
abbrev pub PlacesAlternate : Type 0
PlacesAlternate = (game : Game) (t : ℕ) → game.ahead ≡ 1 → (commit_place game t ≡ 2 * t) × (reveal_place game t ≡ 2 * t + 1)

-- each place of the stream is that of a frame
abbrev pub EachPlaceIsAFrames : Type 0
EachPlaceIsAFrames = (game : Game) (n : ℕ) → 1 ≤ game.ahead → n < 2 * game.turns →
    ((t : ℕ) × (t < game.turns) × (commit_place game t ≡ n)) ⊎ ((t : ℕ) × (t < game.turns) × (reveal_place game t ≡ n))

-- a turn's commitment is held exactly where its place is below the next, and the turn resolved where its reveal's is
abbrev pub KnownIsBelowTheNext : Type 0
KnownIsBelowTheNext = (game : Game) (me q t : ℕ) (h : List Entry) → 1 ≤ game.ahead → t < game.turns →
    (IsSome (held game me h q t) ↔ (commit_place game t < next_place game me h q)) ×
    (IsSome (resolved game me h q t) ↔ (reveal_place game t < next_place game me h q))

-- at a player's next place no frame stands that fits: none commits its turn, or none opens the digest held by a legal move
abbrev pub NothingFitsTheNext : Type 0
NothingFitsTheNext = (game : Game) (me q t : ℕ) (h : List Entry) → 1 ≤ game.ahead →
    (slot_at game (next_place game me h q) ≡ Some (record { what = Commit; turn = t }) → EachIs (λ f. commit_of t f ≡ None) (frames_of me q h)) ×
    (slot_at game (next_place game me h q) ≡ Some (record { what = Reveal; turn = t }) →
    (d : Digest) × (held game me h q t ≡ Some d) × EachIs (λ f. opening_of game q (known game me h q).moves d t f ≡ None) (frames_of me q h))

-- the digest held is that of the first commitment to the turn
abbrev pub HeldIsTheFirst : Type 0
HeldIsTheFirst = (game : Game) (me q t : ℕ) (h : List Entry) (d : Digest) → held game me h q t ≡ Some d →
    (p : ℕ) × (front : List TurnFrame) × (back : List TurnFrame) × (frames_of me q h ≡ front ++ F.Commit p t d ∷ back) × EachIs (λ f. commit_of t f ≡ None) front

-- the move resolved is that of the first frame that reveals the turn, opens the digest held, and is legal after the moves before
abbrev pub ResolvedIsTheFirst : Type 0
ResolvedIsTheFirst = (game : Game) (me q t : ℕ) (h : List Entry) (m : Move) → resolved game me h q t ≡ Some m →
    (d : Digest) × (f : TurnFrame) × (front : List TurnFrame) × (back : List TurnFrame) × (held game me h q t ≡ Some d) × (frames_of me q h ≡ front ++ f ∷ back) ×
    (opening_of game q (take t (known game me h q).moves) d t f ≡ Some m) × EachIs (λ g. opening_of game q (take t (known game me h q).moves) d t g ≡ None) front

-- another player is known by the frames that were received from it
abbrev pub OthersAreKnownByReceipt : Type 0
OthersAreKnownByReceipt = (game : Game) (me q : ℕ) (h : List Entry) → (q ≡ me → ⊥) → known game me h q ≡ got_known game q h

-- the moves that are resolved are legal from the start, one after another
abbrev pub ResolvedAreLegal : Type 0
ResolvedAreLegal = (game : Game) (me q : ℕ) (h : List Entry) → AreLegal game q (known game me h q).moves

-- what is held, or resolved, stays so as the log grows
abbrev pub KnownStays : Type 0
KnownStays = (game : Game) (me q t : ℕ) (g h : List Entry) →
    ((d : Digest) → held game me g q t ≡ Some d → held game me (g ++ h) q t ≡ Some d) ×
    ((m : Move) → resolved game me g q t ≡ Some m → resolved game me (g ++ h) q t ≡ Some m)
