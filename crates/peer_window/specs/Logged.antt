-- Logged: a window beside the log of another player that got its frames.
use Rattle.std.specs.Prelude.{◌≡◌, ℕ, ◌+◌, ◌<◌, List, [], ◌∷◌, ◌++◌, length, ◌==◌, if◌then◌else◌, IsTrue}
use Rattle.definitions.specs.declared.frames.TurnFrame.{TurnFrame}
use Rattle.definitions.specs.declared.logs.Entry.{Entry}
use Rattle.definitions.specs.declared.logs.Entry.TheVariants.{Chose, Made, Got}
use Rattle.definitions.specs.declared.answers.GotAnswer.{GotAnswer}
use Rattle.definitions.specs.declared.answers.GotAnswer.TheVariants as G
use Rattle.definitions.specs.Lists.{EachIs}
use Rattle.definitions.specs.World.{Game}
use Rattle.definitions.specs.Held.{known}
use Rattle.definitions.specs.Findings.{is_clean}
use Rattle.definitions.specs.Answers.{got_answer, is_of_another}
use Rattle.peer_window.specs.declared.received.Received.{Received}
use Rattle.peer_window.specs.declared.received.Offer.{Offer}
use Rattle.peer_window.specs.declared.received.Offer.TheVariants.{Taken, Stashed, Same, Far, Conflict}
use Rattle.peer_window.specs.Windows.{IsWindow, Seen, answer}

-- the frame that the entry of this number got from the player
abbrev pub received_in : ℕ → ℕ → Entry → List Received
received_in q i (Chose t m n) = []
received_in q i (Made f) = []
received_in q i (Got p f) = if p == q then record { entry = i; frame = f } ∷ [] else []

-- those of a log, of which the first entry has this number
abbrev pub received_from : ℕ → ℕ → List Entry → List Received
received_from q i [] = []
received_from q i (e ∷ es) = received_in q i e ++ received_from q (i + 1) es

-- the window was offered what the log got from its player, a player other than the log's owner
pub record IsSeenIn (me : ℕ) (h : List Entry) (w : Seen) : Type 0 where
  pub other : w.player ≡ me → ⊥
  pub frames : w.frames ≡ received_from w.player 0 h

-- the answer of the log that a window's answer is
abbrev pub answer_of_offer : Offer → GotAnswer
answer_of_offer Taken = G.Taken
answer_of_offer Stashed = G.Stashed
answer_of_offer Same = G.Same
answer_of_offer Far = G.Far
answer_of_offer (Conflict f) = G.Caught f

-- a window shows of its player what the log shows
abbrev pub WindowsShowTheLog : Type 0
WindowsShowTheLog = (game : Game) (me : ℕ) (h : List Entry) (w : Seen) → IsWindow game w → IsSeenIn me h w → w.known ≡ known game me h w.player

-- a window answers a frame as the log does, if the log has no finding and the frame's entry is its next
abbrev pub WindowsAnswerAsTheLog : Type 0
WindowsAnswerAsTheLog = (game : Game) (me : ℕ) (h : List Entry) (w : Seen) (f : TurnFrame) → IsWindow game w → IsSeenIn me h w →
    IsTrue (is_clean game h) → IsTrue (is_of_another game me w.player f) → got_answer game me h w.player f ≡ answer_of_offer (answer game w (record { entry = length h; frame = f }))

-- the frames that a log got have numbers below that of its next entry
abbrev pub ReceivedAreBelow : Type 0
ReceivedAreBelow = (q : ℕ) (h : List Entry) → EachIs (λ r. r.entry < length h) (received_from q 0 h)

-- what a log got from a player with one frame of it more
abbrev pub ReceivedWithOneMore : Type 0
ReceivedWithOneMore = (q : ℕ) (h : List Entry) (f : TurnFrame) → received_from q 0 (h ++ Got q f ∷ []) ≡ received_from q 0 h ++ record { entry = length h; frame = f } ∷ []

-- and with an entry that got no frame of it
abbrev pub ReceivedWithAnother : Type 0
ReceivedWithAnother = (q : ℕ) (h : List Entry) (e : Entry) → received_in q (length h) e ≡ [] → received_from q 0 (h ++ e ∷ []) ≡ received_from q 0 h
