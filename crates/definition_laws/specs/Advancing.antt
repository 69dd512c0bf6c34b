-- Laws on advancing: the frames that the owner makes by itself, and how it then stands.
use Rattle.std.specs.Prelude.{◌≡◌, ℕ, suc, ◌+◌, ◌*◌, ◌≤◌, ◌⊎◌, ◌↔◌, false, List, [], ◌∷◌, ◌++◌, None, Some, IsTrue}
use Rattle.definitions.specs.declared.frames.TurnFrame.{TurnFrame}
use Rattle.definitions.specs.declared.logs.Entry.{Entry}
use Rattle.definitions.specs.declared.logs.Entry.TheVariants.{Made}
use Rattle.definitions.specs.World.{Game}
use Rattle.definitions.specs.declared.findings.Finding.{Finding}
use Rattle.definitions.specs.declared.answers.Progress.TheVariants as P
use Rattle.definitions.specs.Findings.{findings, is_clean}
use Rattle.definitions.specs.Honest.{IsHonest, allowed, made_count}
use Rattle.definitions.specs.Needs.{may_choose, needs}
use Rattle.definitions.specs.Advance.{advance, next_made, progress}

-- after advancing no frame is left that may be made
abbrev pub AdvancingEnds : Type 0
AdvancingEnds = (game : Game) (me : ℕ) (h : List Entry) → 1 ≤ game.ahead → next_made game me (advance game me h) ≡ None

-- advancing keeps a log honest
abbrev pub AdvancingIsHonest : Type 0
AdvancingIsHonest = (game : Game) (me : ℕ) (h : List Entry) → IsHonest game me h → IsHonest game me (advance game me h)

-- a log with a next frame advances to where it does with that frame, and one without stays as it is
abbrev pub AdvancesByTheNext : Type 0
AdvancesByTheNext = (game : Game) (me : ℕ) (h : List Entry) → 1 ≤ game.ahead →
    ((f : TurnFrame) → next_made game me h ≡ Some f → advance game me h ≡ advance game me (h ++ Made f ∷ [])) ×
    (next_made game me h ≡ None → advance game me h ≡ h)

-- after advancing no made entry is allowed
abbrev pub NothingIsLeftToMake : Type 0
NothingIsLeftToMake = (game : Game) (me : ℕ) (h : List Entry) (f : TurnFrame) → 1 ≤ game.ahead → IsHonest game me h →
    allowed game me (advance game me h) (Made f) ≡ false

-- advancing changes no finding
abbrev pub AdvancingFindsNothing : Type 0
AdvancingFindsNothing = (game : Game) (me : ℕ) (h : List Entry) → findings game (advance game me h ∷ []) ≡ findings game (h ∷ [])

-- exactly one of the three
abbrev pub ExactlyOne : Type 0 → Type 0 → Type 0 → Type 0
ExactlyOne P Q R = (P × (Q → ⊥) × (R → ⊥)) ⊎ (((P → ⊥) × Q × (R → ⊥)) ⊎ ((P → ⊥) × (Q → ⊥) × R))

-- the owner made all its frames, and waits for no one
abbrev pub IsDone : Game → ℕ → List Entry → Type 0
IsDone game me h = (made_count h ≡ 2 * game.turns) × (needs game me h ≡ [])

-- the owner of a clean honest log that was advanced may choose, or waits for someone, or is done
abbrev pub StandsInOneWay : Type 0
StandsInOneWay = (game : Game) (me : ℕ) (h : List Entry) → 1 ≤ game.ahead → IsHonest game me h → IsTrue (is_clean game h) →
    ExactlyOne (IsTrue (may_choose game me (advance game me h))) (needs game me (advance game me h) ≡ [] → ⊥) (IsDone game me (advance game me h))

-- progress counts the frames that are made, or says which of the three it is
abbrev pub ProgressTells : Type 0
ProgressTells = (game : Game) (me : ℕ) (h : List Entry) → 1 ≤ game.ahead → IsHonest game me h → IsTrue (is_clean game h) →
    ((f : TurnFrame) → next_made game me h ≡ Some f →
    (n : ℕ) × (progress game me h ≡ P.Made (suc n)) × (made_count (advance game me h) ≡ made_count h + suc n)) ×
    (next_made game me h ≡ None →
    ((progress game me h ≡ P.Choose) ↔ IsTrue (may_choose game me h)) ×
    ((progress game me h ≡ P.Waits) ↔ (needs game me h ≡ [] → ⊥)) ×
    ((progress game me h ≡ P.Done) ↔ IsDone game me h))

-- progress in a log with findings is the first of them
abbrev pub ProgressIsCaught : Type 0
ProgressIsCaught = (game : Game) (me : ℕ) (h : List Entry) (f : Finding) (fs : List Finding) → findings game (h ∷ []) ≡ f ∷ fs → progress game me h ≡ P.Caught f
