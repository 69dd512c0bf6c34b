-- Laws on the owner's own stream: what it chose, and the frames that it made of that.
use Rattle.std.specs.Prelude.{◌≡◌, ℕ, ◌+◌, ◌/◌, ◌<◌, ◌≤◌, ◌↔◌, List, Some, IsTrue, length, map, slice_get, take}
use Rattle.definitions.specs.declared.openings.Opening.{Opening}
use Rattle.definitions.specs.declared.frames.TurnFrame.{TurnFrame}
use Rattle.definitions.specs.declared.logs.Entry.{Entry}
use Rattle.definitions.specs.declared.logs.Entry.TheVariants.{Made}
use Rattle.definitions.specs.World.{Game}
use Rattle.definitions.specs.Openings.{commitment}
use Rattle.definitions.specs.Places.{slot_at}
use Rattle.definitions.specs.Logs.{chosen, made, player_of, turn_of}
use Rattle.definitions.specs.Held.{held_count, known, next_place, resolved_count}
use Rattle.definitions.specs.Answers.{place_of}
use Rattle.definitions.specs.Honest.{IsHonest, allowed, chosen_for, made_count}
use Rattle.definitions.specs.Advance.{frame_at, next_made}

-- in an honest log the owner's own frames are all there
abbrev pub OwnFramesAreThere : Type 0
OwnFramesAreThere = (game : Game) (me : ℕ) (h : List Entry) → 1 ≤ game.ahead → IsHonest game me h → next_place game me h me ≡ made_count h

-- the owner's own resolved moves are the first that it chose, and its own digests the commitments to the first openings
abbrev pub OwnStreamIsChosen : Type 0
OwnStreamIsChosen = (game : Game) (me : ℕ) (h : List Entry) → 1 ≤ game.ahead → IsHonest game me h →
    ((known game me h me).moves ≡ take (resolved_count game me h me) (map (λ o. o.mv) (chosen me h))) ×
    ((known game me h me).digests ≡ take (held_count game me h me) (map (commitment game.id) (chosen me h)))

-- committing one turn ahead, every second frame that the owner made is a reveal
abbrev pub OwnFramesAlternate : Type 0
OwnFramesAlternate = (game : Game) (me : ℕ) (h : List Entry) → game.ahead ≡ 1 → IsHonest game me h →
    (resolved_count game me h me ≡ made_count h / 2) × (held_count game me h me ≡ (made_count h + 1) / 2)

-- the owner chose turn after turn from the first on
abbrev pub ChosenInOrder : Type 0
ChosenInOrder = (game : Game) (me t : ℕ) (h : List Entry) (o : Opening) → 1 ≤ game.ahead → IsHonest game me h →
    slice_get (chosen me h) t ≡ Some o → (o.player ≡ me) × (o.turn ≡ t) × (chosen_for me h t ≡ Some o)

-- what the owner chose is committed, but for one opening at most, and is of turns of the session
abbrev pub ChoosesOneAtATime : Type 0
ChoosesOneAtATime = (game : Game) (me : ℕ) (h : List Entry) → 1 ≤ game.ahead → IsHonest game me h →
    (held_count game me h me ≤ length (chosen me h)) × (length (chosen me h) ≤ held_count game me h me + 1) × (length (chosen me h) ≤ game.turns)

-- made frame k is the frame of place k, by what was chosen for its turn
abbrev pub MadeInOrder : Type 0
MadeInOrder = (game : Game) (me k : ℕ) (h : List Entry) (f : TurnFrame) → 1 ≤ game.ahead → IsHonest game me h → slice_get (made h) k ≡ Some f →
    (frame_at game me h (slot_at game k) ≡ Some f) × (place_of game f ≡ k) × (player_of f ≡ me) × (turn_of f < game.turns)

-- the next made frame is the only one that is allowed
abbrev pub OnlyTheNextIsAllowed : Type 0
OnlyTheNextIsAllowed = (game : Game) (me : ℕ) (h : List Entry) (f : TurnFrame) → 1 ≤ game.ahead → IsHonest game me h →
    IsTrue (allowed game me h (Made f)) ↔ (next_made game me h ≡ Some f)
