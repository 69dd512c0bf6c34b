-- Replies: what becomes of a frame, in two steps: by the log before it, and by the log with it.
use Rattle.std.specs.Prelude.{◌≡◌, ℕ, ◌-◌, not, List, ◌∷◌, [], ◌++◌, Option, Some, None, length, take, if◌then◌else◌, IsTrue, ◌↔◌}
use Rattle.definitions.specs.declared.frames.TurnFrame.{TurnFrame}
use Rattle.definitions.specs.declared.logs.Entry.{Entry}
use Rattle.definitions.specs.declared.logs.Entry.TheVariants.{Got}
use Rattle.definitions.specs.declared.answers.GotAnswer.{GotAnswer}
use Rattle.definitions.specs.declared.answers.GotAnswer.TheVariants.{Same, Far, Foreign, Closed}
use Rattle.definitions.specs.World.{Game}
use Rattle.definitions.specs.Findings.{is_clean}
use Rattle.definitions.specs.Answers.{is_of_another, is_far, is_same, got_answer}
use Rattle.definitions.specs.Honest.{allowed}
use Rattle.definitions.specs.Steps.{is_taken_in}

-- the answer to a frame that comes from q and isn't taken into the log; none where it is taken in
abbrev pub refusal : Game → ℕ → List Entry → ℕ → TurnFrame → Option GotAnswer
refusal game me h q f =
    if not (is_clean game h) then Some Closed
    else if not (is_of_another game me q f) then Some Foreign
    else if is_far game me h q f then Some Far
    else if is_same h q f then Some Same
    else None

-- the entries before the last
abbrev pub before_last : List Entry → List Entry
before_last h = take (length h - 1) h

-- the log ends with the frame that was got from q, and the log before it took the frame in
pub record IsTaken (game : Game) (me : ℕ) (h : List Entry) (q : ℕ) (f : TurnFrame) : Type 0 where
  pub stands : h ≡ before_last h ++ Got q f ∷ []
  pub new : refusal game me (before_last h) q f ≡ None

-- the refusal is the answer; where there is none, the frame may stand in the log, and the log with it tells the answer
pub record AreReplies (game : Game) (me : ℕ) (h : List Entry) (q : ℕ) (f : TurnFrame) : Type 0 where
  pub refused : (a : GotAnswer) → refusal game me h q f ≡ Some a → got_answer game me h q f ≡ a
  pub joins : IsTrue (is_taken_in game me h q f) ↔ (refusal game me h q f ≡ None)
  pub allowed : refusal game me h q f ≡ None → IsTrue (allowed game me h (Got q f))
  pub taken : refusal game me h q f ≡ None → IsTaken game me (h ++ Got q f ∷ []) q f
  pub before : before_last (h ++ Got q f ∷ []) ≡ h

-- both steps together are the answer to a frame
abbrev pub StepsAreTheAnswer : Type 0
StepsAreTheAnswer = (game : Game) (me q : ℕ) (h : List Entry) (f : TurnFrame) → AreReplies game me h q f
