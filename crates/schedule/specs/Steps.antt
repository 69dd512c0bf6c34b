-- Steps: what a step of a table means, how it is answered, and the logs with which a match begins.
use Rattle.std.specs.Prelude.{ℕ, Bool, true, false, not, ◌<◌, List, [], Option, Some, None, length, map, ◌==◌, if◌then◌else◌}
use Rattle.std.specs.Int.{bit_at}
use Rattle.std.specs.List.{range_with_len}
use Rattle.definitions.specs.declared.world.Move.{Move}
use Rattle.definitions.specs.declared.frames.TurnFrame.{TurnFrame}
use Rattle.definitions.specs.declared.logs.Entry.{Entry}
use Rattle.definitions.specs.declared.answers.OwnFault.{OwnFault}
use Rattle.definitions.specs.World.{Game, players_of}
use Rattle.definitions.specs.Logs.{chosen}
use Rattle.definitions.specs.Answers.{got_answer}
use Rattle.definitions.specs.Needs.{choice_fault}
use Rattle.definitions.specs.Steps.{Logs, has_log, log_of, made_at, run}
use Rattle.definitions.specs.Steps as D
use Rattle.peer_core.specs.Answers.{is_logged}
use Rattle.peer_core.specs.Cutting.{may_cut}
use Rattle.schedule.specs.declared.steps.Step.{Step}
use Rattle.schedule.specs.declared.steps.Step.TheVariants.{Choose, Deliver, Hostile, Stop}
use Rattle.schedule.specs.declared.steps.StepAnswer.{StepAnswer}
use Rattle.schedule.specs.declared.steps.StepAnswer.TheVariants.{Chosen, Refused, Got, NotHonest, NotHostile, NoFrame, Stopped, BadCut}

-- the step in the words of the definitions
abbrev pub meant : Step → D.Step
meant (Choose player mv nonce) = D.Choose player mv nonce
meant (Deliver from to place) = D.Deliver from to place
meant (Hostile from to frame) = D.Hostile from to frame
meant (Stop player keep) = D.Stop player keep

-- the player whose log may change by the step
abbrev pub mover : Step → ℕ
mover (Choose player mv nonce) = player
mover (Deliver from to place) = to
mover (Hostile from to frame) = to
mover (Stop player keep) = player

-- all players of the step are the session's
abbrev pub HasPlayers : Game → Step → Type 0
HasPlayers game (Choose player mv nonce) = player < players_of game
HasPlayers game (Deliver from to place) = (from < players_of game) × (to < players_of game)
HasPlayers game (Hostile from to frame) = (from < players_of game) × (to < players_of game)
HasPlayers game (Stop player keep) = player < players_of game

-- ---- how a step is answered

-- the turn that is chosen, where the choice has no fault
abbrev pub chosen_or : ℕ → Option OwnFault → StepAnswer
chosen_or turn None = Chosen turn
chosen_or turn (Some fault) = Refused fault

-- the answer to a choice of the log's owner
abbrev pub choice_answer : Game → ℕ → List Entry → Move → StepAnswer
choice_answer game p h mv = chosen_or (length (chosen p h)) (choice_fault game p h mv)

-- the answer to a frame of q, if there is one
abbrev pub frame_answer : Game → ℕ → List Entry → ℕ → Option TurnFrame → StepAnswer
frame_answer game p h q None = NoFrame
frame_answer game p h q (Some f) = Got (got_answer game p h q f)

-- the answer to a stop of the log's owner
abbrev pub stop_answer : List Entry → ℕ → StepAnswer
stop_answer h keep = if may_cut h keep then Stopped else BadCut

-- the answer of a player that is to be honest, by its log
abbrev pub if_honest : Option (List Entry) → (List Entry → StepAnswer) → StepAnswer
if_honest None answer = NotHonest
if_honest (Some h) answer = answer h

-- the answer to the step
abbrev pub answer : Game → Logs → Step → StepAnswer
answer game logs (Choose p mv nonce) = if_honest (log_of logs p) (λ h. choice_answer game p h mv)
answer game logs (Deliver q p place) =
    if_honest (log_of logs q) (λ g. if_honest (log_of logs p) (λ h. frame_answer game p h q (made_at (Some g) place)))
answer game logs (Hostile q p f) = if_honest (log_of logs p) (λ h. if has_log logs q then NotHostile else frame_answer game p h q (Some f))
answer game logs (Stop p keep) = if_honest (log_of logs p) (λ h. stop_answer h keep)

-- the answer says that no log changed
abbrev pub is_refusal : StepAnswer → Bool
is_refusal (Chosen turn) = false
is_refusal (Refused fault) = true
is_refusal (Got a) = not (is_logged a)
is_refusal NotHonest = true
is_refusal NotHostile = true
is_refusal NoFrame = true
is_refusal Stopped = false
is_refusal BadCut = true

-- ---- how a match begins

-- the player is hostile: its bit is set
abbrev pub is_hostile : (hostile q : ℕ) → Bool
is_hostile hostile q = bit_at hostile q == 1

-- the log with which a player begins: none for a hostile one
abbrev pub first_log : (hostile q : ℕ) → Option (List Entry)
first_log hostile q = if is_hostile hostile q then None else Some []

-- the logs with which the players begin
abbrev pub first_logs : Game → (hostile : ℕ) → Logs
first_logs game hostile = map (first_log hostile) (range_with_len 0 (players_of game))

-- the logs behind these steps
abbrev pub logs_after : Game → (hostile : ℕ) → List D.Step → Logs
logs_after game hostile steps = run game (first_logs game hostile) steps
