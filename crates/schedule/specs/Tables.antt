-- Tables: a table as contracts see it, and what holds of every one.
use Rattle.std.specs.Prelude.{◌≡◌, ℕ, List, Option, Some, None, length, map, option_map}
use Rattle.definitions.specs.declared.frames.TurnFrame.{TurnFrame}
use Rattle.definitions.specs.declared.logs.Entry.{Entry}
use Rattle.definitions.specs.Lists.{item_or}
use Rattle.definitions.specs.World.{Game, players_of}
use Rattle.definitions.specs.Advance.{next_made}
use Rattle.definitions.specs.Steps.{AreAuthentic, Logs, after, log_after_frame, log_of, with_log}
use Rattle.definition_laws.specs.Stepping.{AreHonest}
use Rattle.peer_core.specs.Views.{PeerState}
use Rattle.schedule.specs.declared.steps.Step.{Step}
use Rattle.schedule.specs.declared.steps.StepAnswer.{StepAnswer}
use Rattle.schedule.specs.declared.tallies.Tally.{Tally}
use Rattle.schedule.specs.Seats.{log_at}
use Rattle.schedule.specs.Steps.{answer, frame_answer, if_honest, meant, mover}
use Rattle.schedule.specs.Tallies.{tallied}

-- a table: the session, the logs of its honest players, and how often each answered frames, in order of player
pub record TableState : Type 0 where
  pub game : Game
  pub logs : Logs
  pub tallies : List Tally

-- the logs of the peers at the seats
abbrev pub logs_at : List (Option PeerState) → Logs
logs_at seats = map log_at seats

-- the peer at the seat is the player's, of this session
pub record IsSeated (game : Game) (q : ℕ) (s : PeerState) : Type 0 where
  pub game_is : s.game ≡ game
  pub player_is : s.me ≡ q

-- each seat is one player's, in order
pub record AreSeated (game : Game) (seats : List (Option PeerState)) : Type 0 where
  pub one_each : length seats ≡ players_of game
  pub each : (q : ℕ) (s : PeerState) → item_or seats q None ≡ Some s → IsSeated game q s

-- the logs are honest and authentic, and no honest player has a frame left that it may make
pub record AreFair (game : Game) (logs : Logs) : Type 0 where
  pub one_each : length logs ≡ players_of game
  pub honest : AreHonest game logs
  pub authentic : AreAuthentic logs
  pub made : (q : ℕ) (h : List Entry) → log_of logs q ≡ Some h → next_made game q h ≡ None

-- what holds of a table's parts
pub record IsTable (game : Game) (seats : List (Option PeerState)) (tallies : List Tally) : Type 0 where
  pub seated : AreSeated game seats
  pub fair : AreFair game (logs_at seats)
  pub one_tally : length tallies ≡ players_of game

-- the step was answered and done as the definitions say
pub record IsStepped (before : TableState) (step : Step) (said : StepAnswer) (behind : TableState) : Type 0 where
  pub said_is : said ≡ answer before.game before.logs step
  pub behind_is : behind ≡ record { game = before.game; logs = after before.game before.logs (meant step); tallies = tallied before.tallies (mover step) said }

-- the honest player's peer
abbrev pub peer_of : TableState → ℕ → Option PeerState
peer_of t q = option_map (λ h. record { game = t.game; me = q; entries = h }) (log_of t.logs q)

-- the logs behind a frame of q that came to player p
abbrev pub logs_with : TableState → (q p : ℕ) → TurnFrame → Logs
logs_with t q p f = with_log t.logs p (log_after_frame t.game p (log_of t.logs p) q (Some f))

-- what player p answers to it
abbrev pub heard_answer : TableState → (q p : ℕ) → TurnFrame → StepAnswer
heard_answer t q p f = if_honest (log_of t.logs p) (λ h. frame_answer t.game p h q (Some f))
