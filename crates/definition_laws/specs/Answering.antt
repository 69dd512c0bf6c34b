-- Laws on answers: what becomes of a frame that comes.
use Rattle.std.specs.Prelude.{◌≡◌, ℕ, ◌+◌, ◌*◌, ◌<◌, ◌≤◌, ◌↔◌, ◌⊎◌, List, [], ◌∷◌, ◌++◌, IsTrue}
use Rattle.definitions.specs.declared.frames.TurnFrame.{TurnFrame}
use Rattle.definitions.specs.declared.logs.Entry.{Entry}
use Rattle.definitions.specs.declared.logs.Entry.TheVariants.{Got}
use Rattle.definitions.specs.declared.answers.GotAnswer.{GotAnswer}
use Rattle.definitions.specs.declared.answers.GotAnswer.TheVariants.{Taken, Stashed, Same, Far, Foreign, Caught, Closed}
use Rattle.definitions.specs.declared.findings.Finding.{Finding}
use Rattle.definitions.specs.World.{Game}
use Rattle.definitions.specs.Held.{next_place}
use Rattle.definitions.specs.Findings.{findings, is_clean}
use Rattle.definitions.specs.Answers.{got_answer, is_far, is_new, is_of_another, is_same, place_of}
use Rattle.definitions.specs.Entries.{AreWellFormed}
use Rattle.definitions.specs.Steps.{is_taken_in}
use Rattle.definition_laws.specs.Members.{Has}

-- a frame is far exactly where its place is more than eight past the next, or past the last turn
abbrev pub FarIsPastTheWindow : Type 0
FarIsPastTheWindow = (game : Game) (me q : ℕ) (h : List Entry) (f : TurnFrame) →
    IsTrue (is_far game me h q f) ↔ ((next_place game me h q + 8 < place_of game f) ⊎ (2 * game.turns ≤ place_of game f))

-- a frame is the same exactly where the log has got it
abbrev pub SameStandsInTheLog : Type 0
SameStandsInTheLog = (q : ℕ) (h : List Entry) (f : TurnFrame) → IsTrue (is_same h q f) ↔ Has h (Got q f)

-- a new frame that makes no finding is at the next place and taken, or above it and stashed
abbrev pub NewFramesAreTakenOrStashed : Type 0
NewFramesAreTakenOrStashed = (game : Game) (me q : ℕ) (h : List Entry) (f : TurnFrame) → 1 ≤ game.ahead → AreWellFormed game me h →
    IsTrue (is_clean game h) → IsTrue (is_of_another game me q f) → IsTrue (is_new game me h q f) → findings game ((h ++ Got q f ∷ []) ∷ []) ≡ [] →
    ((place_of game f ≡ next_place game me h q) × (got_answer game me h q f ≡ Taken)) ⊎
    ((next_place game me h q < place_of game f) × (got_answer game me h q f ≡ Stashed))

-- a new frame of a place of which the log has a frame already is caught
abbrev pub TakenPlacesAreCaught : Type 0
TakenPlacesAreCaught = (game : Game) (me q : ℕ) (h : List Entry) (f g : TurnFrame) → 1 ≤ game.ahead → AreWellFormed game me h → IsTrue (is_clean game h) →
    IsTrue (is_of_another game me q f) → IsTrue (is_new game me h q f) → Has h (Got q g) → place_of game g ≡ place_of game f →
    (x : Finding) × (got_answer game me h q f ≡ Caught x)

-- the frame is in the log after such an answer
abbrev pub Joins : GotAnswer → Type 0
Joins Taken = Unit {0}
Joins Stashed = Unit {0}
Joins Same = ⊥
Joins Far = ⊥
Joins Foreign = ⊥
Joins (Caught x) = Unit {0}
Joins Closed = ⊥

-- a frame is taken into the log exactly where the answer is that it is taken, stashed or caught
abbrev pub JoinsAsAnswered : Type 0
JoinsAsAnswered = (game : Game) (me q : ℕ) (h : List Entry) (f : TurnFrame) → IsTrue (is_taken_in game me h q f) ↔ Joins (got_answer game me h q f)
