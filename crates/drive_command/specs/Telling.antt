-- Telling: what a text tells of a log.
use Rattle.std.specs.Prelude.{◌≡◌, ◌⊎◌, ℕ, List, [], ◌∷◌, ◌++◌, Some, None, length, flat_map, slice_get, if◌then◌else◌}
use Rattle.definitions.specs.declared.world.Move.{Move}
use Rattle.definitions.specs.declared.openings.Nonce.{Nonce}
use Rattle.definitions.specs.declared.answers.OwnFault.{OwnFault}
use Rattle.definitions.specs.declared.frames.TurnFrame.{TurnFrame}
use Rattle.definitions.specs.declared.findings.Finding.{Finding}
use Rattle.definitions.specs.declared.answers.GotAnswer.{GotAnswer}
use Rattle.definitions.specs.declared.logs.Entry.{Entry}
use Rattle.definitions.specs.declared.logs.Entry.TheVariants.{Chose, Made, Got}
use Rattle.definitions.specs.World.{Game}
use Rattle.definitions.specs.Logs.{chosen}
use Rattle.definitions.specs.Needs.{choice_fault}
use Rattle.definitions.specs.Findings.{findings}
use Rattle.definitions.specs.Answers.{got_answer, place_of}
use Rattle.definitions.specs.Advance.{next_made}
use Rattle.peer_core.specs.Answers.{is_logged}
use Rattle.report_lines.specs.Lines.{choice_text, got_text, hello_text, want_text, bad_text, caught_text, made_text}
use Rattle.drive_command.specs.Report.{end_text, log_text}
use Rattle.report_lines.specs.Report.{own_score_text}

-- what a part of a text is about
pub data Telling : Type 0 where
  -- a choice of the turn is taken
  Chooses : (turn : ℕ) → Move → Nonce → Telling
  -- a choice of this move is refused
  Refuses : Move → OwnFault → Telling
  -- the frame that came from q is answered
  Receives : (q : ℕ) → TurnFrame → GotAnswer → Telling
  -- the log's owner makes the frame
  Makes : TurnFrame → Telling
  -- q greets
  Greets : (q : ℕ) → Telling
  -- q wants the frame of a place
  Wants : (q place : ℕ) → Telling
  -- the byte at this place of what came from q is bad
  Spoils : (q place : ℕ) → Telling
  -- the log that the peer begins with has this finding
  Finds : Finding → Telling
  -- the log so far is printed
  Prints : Telling
  -- the own score is printed
  Scores : Telling

-- how it is written, where the log so far is this one; of a refused choice the turn isn't told
abbrev pub telling_text : Game → ℕ → (log : List Entry) → Telling → List ℕ
telling_text game me log (Chooses turn mv nonce) = choice_text turn None
telling_text game me log (Refuses mv fault) = choice_text 0 (Some fault)
telling_text game me log (Receives q f answer) = got_text q (place_of game f) answer
telling_text game me log (Makes f) = made_text f
telling_text game me log (Greets q) = hello_text q
telling_text game me log (Wants q place) = want_text q place
telling_text game me log (Spoils q place) = bad_text q place
telling_text game me log (Finds f) = caught_text f
telling_text game me log Prints = log_text game me log
telling_text game me log Scores = own_score_text game me log

-- what it adds to the log
abbrev pub added_by : Telling → List Entry
added_by (Chooses turn mv nonce) = Chose turn mv nonce ∷ []
added_by (Refuses mv fault) = []
added_by (Receives q f answer) = if is_logged answer then Got q f ∷ [] else []
added_by (Makes f) = Made f ∷ []
added_by (Greets q) = []
added_by (Wants q place) = []
added_by (Spoils q place) = []
added_by (Finds f) = []
added_by Prints = []
added_by Scores = []

-- how these are written one behind the other, each with the log that those before it left
abbrev pub told_text : Game → ℕ → (log : List Entry) → List Telling → List ℕ
told_text game me log [] = []
told_text game me log (t ∷ ts) = telling_text game me log t ++ told_text game me (log ++ added_by t) ts

-- It is so of the log so far: the choice may be made or is refused for this fault, the answer is the protocol's, the frame is the
-- one that is made next, the finding is the first.
abbrev pub IsTold : Game → ℕ → (log : List Entry) → Telling → Type 0
IsTold game me log (Chooses turn mv nonce) = (turn ≡ length (chosen me log)) × (choice_fault game me log mv ≡ None)
IsTold game me log (Refuses mv fault) = choice_fault game me log mv ≡ Some fault
IsTold game me log (Receives q f answer) = answer ≡ got_answer game me log q f
IsTold game me log (Makes f) = next_made game me log ≡ Some f
IsTold game me log (Greets q) = Unit {0}
IsTold game me log (Wants q place) = Unit {0}
IsTold game me log (Spoils q place) = Unit {0}
IsTold game me log (Finds f) = slice_get (findings game (log ∷ [])) 0 ≡ Some f
IsTold game me log Prints = Unit {0}
IsTold game me log Scores = Unit {0}

-- each is so of the log that those before it left
abbrev pub AreTold : Game → ℕ → (log : List Entry) → List Telling → Type 0
AreTold game me log [] = Unit {0}
AreTold game me log (t ∷ ts) = IsTold game me log t × AreTold game me (log ++ added_by t) ts

-- The body of an answer tells how the log came from its first entries. Each choice, each frame made and each frame received that
-- stands behind them is told where it came, and nothing is told as taken, stashed or made that isn't such an entry; a finding is
-- told of such an entry, or of the log that the run begins with. Each
-- answer is the one that the protocol gives of the log at that moment. Where the log or the score is printed, it is that of the log so far. The
-- last part, if there is one, is the end that belongs to this log.
pub record TellsLog (game : Game) (me : ℕ) (first log : List Entry) (body : List ℕ) : Type 0 where
  pub tellings : List Telling
  pub last : List ℕ
  pub body_is : body ≡ told_text game me first tellings ++ last
  pub told : AreTold game me first tellings
  pub log_is : log ≡ first ++ flat_map added_by tellings
  pub last_is : (last ≡ []) ⊎ (last ≡ end_text game me log)
