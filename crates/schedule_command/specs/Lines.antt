-- Lines: the printed lines of a schedule.
use Rattle.std.specs.Prelude.{ℕ, List, [], ◌∷◌, ◌++◌, Option, Some, None, codes, decimal, flat_map, drop}
use Rattle.definitions.specs.declared.frames.What.{What}
use Rattle.definitions.specs.declared.frames.What.TheVariants.{Commit, Reveal}
use Rattle.definitions.specs.declared.frames.TurnFrame.{TurnFrame}
use Rattle.definitions.specs.declared.frames.TurnFrame.TheVariants as F
use Rattle.definitions.specs.declared.answers.OwnFault.{OwnFault}
use Rattle.definitions.specs.declared.answers.OwnFault.TheVariants.{NotNow, Illegal}
use Rattle.definitions.specs.declared.answers.GotAnswer.{GotAnswer}
use Rattle.definitions.specs.declared.answers.GotAnswer.TheVariants.{Taken, Stashed, Same, Far, Foreign, Closed}
use Rattle.definitions.specs.declared.answers.GotAnswer.TheVariants as G
use Rattle.definitions.specs.declared.logs.Entry.{Entry}
use Rattle.definitions.specs.declared.logs.Entry.TheVariants.{Chose, Made, Got}
use Rattle.definitions.specs.World.{Game}
use Rattle.definitions.specs.Answers.{place_of}
use Rattle.report_lines.specs.Lines.{fault_name, what_name}
use Rattle.schedule.specs.declared.steps.Step.{Step}
use Rattle.schedule.specs.declared.steps.Step.TheVariants.{Choose, Deliver, Hostile, Stop}
use Rattle.schedule.specs.declared.steps.StepAnswer.{StepAnswer}
use Rattle.schedule.specs.declared.steps.StepAnswer.TheVariants as A
use Rattle.schedule.specs.declared.stands.Stand.{Stand}
use Rattle.schedule.specs.declared.stands.Stand.TheVariants as S
use Rattle.schedule.specs.declared.tallies.Tally.{Tally}
use Rattle.schedule.specs.Steps.{mover}

-- a line of these words and a player
unfoldable pub player_line : List ℕ → (p : ℕ) → List ℕ
player_line words p = words ++ decimal p ++ codes "\n"

-- of a choice that is taken: the player and the turn
unfoldable pub chosen_line : (p turn : ℕ) → List ℕ
chosen_line p turn = codes "chosen " ++ decimal p ++ codes " " ++ decimal turn ++ codes "\n"

-- why a choice is refused
abbrev pub refusal_name : OwnFault → List ℕ
refusal_name NotNow = codes "not now"
refusal_name (Illegal fault) = fault_name fault

unfoldable pub refused_line : (p : ℕ) → OwnFault → List ℕ
refused_line p fault = codes "refused " ++ decimal p ++ codes " " ++ refusal_name fault ++ codes "\n"

-- the word for an answer to a frame
abbrev pub answer_name : GotAnswer → List ℕ
answer_name Taken = codes "taken"
answer_name Stashed = codes "stashed"
answer_name Same = codes "same"
answer_name Far = codes "far"
answer_name Foreign = codes "foreign"
answer_name (G.Caught f) = codes "caught"
answer_name Closed = codes "closed"

-- of a frame of this place that came from q to p
unfoldable pub got_line : (q p place : ℕ) → GotAnswer → List ℕ
got_line q p place answer = codes "got " ++ decimal q ++ codes " " ++ decimal p ++ codes " " ++ decimal place ++ codes " " ++ answer_name answer ++ codes "\n"

-- the player from whom the step's frame comes, where it brings one
abbrev pub sender : Step → ℕ
sender (Choose p mv nonce) = p
sender (Deliver q p place) = q
sender (Hostile q p f) = q
sender (Stop p keep) = p

-- the place of the frame that the step brings: the one that is asked for, or that of the frame itself
abbrev pub shown_place : Game → Step → ℕ
shown_place game (Choose p mv nonce) = 0
shown_place game (Deliver q p place) = place
shown_place game (Hostile q p f) = place_of game f
shown_place game (Stop p keep) = 0

-- of a step, by what came of it
abbrev pub step_line : Game → Step → StepAnswer → List ℕ
step_line game step (A.Chosen turn) = chosen_line (mover step) turn
step_line game step (A.Refused fault) = refused_line (mover step) fault
step_line game step (A.Got answer) = got_line (sender step) (mover step) (shown_place game step) answer
step_line game step A.NotHonest = codes "not honest\n"
step_line game step A.NotHostile = codes "not hostile\n"
step_line game step A.NoFrame = codes "no frame\n"
step_line game step A.Stopped = player_line (codes "stopped ") (mover step)
step_line game step A.BadCut = codes "bad cut\n"

-- of a frame that p made: which of which turn
unfoldable pub made_line : (p : ℕ) → What → (turn : ℕ) → List ℕ
made_line p what turn = codes "made " ++ decimal p ++ codes " " ++ what_name what ++ decimal turn ++ codes "\n"

abbrev pub frame_line : (p : ℕ) → TurnFrame → List ℕ
frame_line p (F.Commit q t d) = made_line p Commit t
frame_line p (F.Reveal q t m n) = made_line p Reveal t

-- of an entry that came into p's log: only a frame that is made is told so
abbrev pub entry_line : (p : ℕ) → Entry → List ℕ
entry_line p (Chose t m n) = []
entry_line p (Made f) = frame_line p f
entry_line p (Got q f) = []

-- of the entries that p's log has behind the first so many
unfoldable pub added_lines : (p count : ℕ) → List Entry → List ℕ
added_lines p count log = flat_map (entry_line p) (drop count log)

-- the same where there is a log
abbrev pub made_lines : (p count : ℕ) → Option (List Entry) → List ℕ
made_lines p count None = []
made_lines p count (Some log) = added_lines p count log

-- of how often p's peer gave each answer
unfoldable pub tally_line : (p : ℕ) → Tally → List ℕ
tally_line p t =
    codes "tally " ++ decimal p ++ codes " taken " ++ decimal t.taken ++ codes " stashed " ++ decimal t.stashed ++ codes " same " ++ decimal t.same ++
    codes " far " ++ decimal t.far ++ codes " foreign " ++ decimal t.foreign ++ codes " caught " ++ decimal t.caught ++ codes " closed " ++ decimal t.closed ++ codes "\n"

-- of a frame that p lacks and q made
unfoldable pub behind_line : (p q place : ℕ) → List ℕ
behind_line p q place = codes "stand behind " ++ decimal p ++ codes " " ++ decimal q ++ codes " " ++ decimal place ++ codes "\n"

-- of how the match stands
abbrev pub stand_line : Stand → List ℕ
stand_line (S.Caught p) = player_line (codes "stand caught ") p
stand_line (S.Moving p) = player_line (codes "stand moving ") p
stand_line (S.Behind p q place) = behind_line p q place
stand_line (S.Held q) = player_line (codes "stand held ") q
stand_line S.Finished = codes "stand finished\n"
