-- Polling: what stands after polls, rounds and whole runs.
use Rattle.std.specs.Prelude.{◌≡◌, ℕ, ◌+◌, ◌≤◌, Bool, true, false, List, ◌++◌, Option}
use Rattle.socket_station.specs.Items.{Item}
use Rattle.pilots.specs.Plans.{Plan}
use Rattle.loop_rules.specs.Licence.{is_licensed}
use Rattle.loop_rules.specs.Told.{IsTold}
use Rattle.loop_laws.specs.Sockets.{SocketsAreNew}
use Rattle.ready_loop.specs.declared.settling.Settled.{Settled}
use Rattle.ready_loop.specs.declared.settling.Settled.TheVariants as S
use Rattle.ready_loop.specs.declared.polling.Round.{Round}
use Rattle.ready_loop.specs.declared.polling.Round.TheVariants as R
use Rattle.loop_ends.specs.declared.ends.Ended.{Ended}
use Rattle.loop_ends.specs.declared.ends.Ended.TheVariants as E
use Rattle.ready_loop.specs.States.{LoopState, setting_of, view_of}
use Rattle.own_moves.specs.Choices.{Chooser}
use Rattle.ready_loop.specs.Going.{IsDeaf, polls_of}
use Rattle.ready_loop.specs.Stops.{IsWhole, Refuses, StandsSettled}
use Rattle.ready_loop.specs.Settling.{ChoosesIn}

-- before a poll
pub record IsLicensedToPoll (items : List Item) (l : LoopState) : Type 0 where
  pub told : IsTold items (view_of l)
  pub whole : IsWhole l
  pub licensed : is_licensed (view_of l) ≡ true

-- The history grew by items that the rules allow, so many of them polls, and shows what the loop
-- knows. The numbers of the sockets in it are new, where they were before.
pub record GoesBy (count : ℕ) (before after : List Item) (l m : LoopState) : Type 0 where
  pub more : List Item
  pub grown : after ≡ before ++ more
  pub new : SocketsAreNew before → SocketsAreNew after
  pub polls : polls_of after ≡ polls_of before + count
  pub setting : setting_of m ≡ setting_of l
  pub told : IsTold after (view_of m)

-- how many polls an answer tells of
abbrev pub polls_by : Bool → ℕ
polls_by true = 1
polls_by false = 0

abbrev pub StandsPolled : (done : Bool) → LoopState → Type 0
StandsPolled true m = IsWhole m
StandsPolled false m = IsDeaf m

pub record Polls (done : Bool) (before after : List Item) (l m : LoopState) : Type 0 where
  pub goes : GoesBy (polls_by done) before after l m
  pub peer : m.peer ≡ l.peer
  pub stands : StandsPolled done m

-- how many polls a round made
abbrev pub polls_in : Round → ℕ
polls_in R.On = 1
polls_in _ = 0

-- how a round ends whose settling ended so; idle it goes on, once the poll is made
abbrev pub round_of : Settled → Round
round_of S.Idle = R.On
round_of S.Done = R.Done
round_of (S.Caught f) = R.Caught f
round_of S.KeepFault = R.KeepFault
round_of (S.OwnMove turn fault) = R.OwnMove turn fault

abbrev pub is_round_on : Round → Bool
is_round_on R.On = true
is_round_on R.Done = false
is_round_on (R.Caught f) = false
is_round_on R.PollFault = false
is_round_on R.KeepFault = false
is_round_on (R.OwnMove turn fault) = false

-- how a run ends whose last round ended so
abbrev pub ended_of : Round → Ended
ended_of R.On = E.GaveUp
ended_of R.Done = E.Done
ended_of (R.Caught f) = E.Caught f
ended_of R.PollFault = E.PollFault
ended_of R.KeepFault = E.KeepFault
ended_of (R.OwnMove turn fault) = E.OwnMove turn fault

-- or that settled so after its last poll
abbrev pub ended_at : Settled → Ended
ended_at settled = ended_of (round_of settled)

-- why a round ended so
abbrev pub StandsRound : Option Plan → Round → LoopState → Type 0
StandsRound plan R.On m = IsWhole m
StandsRound plan R.Done m = StandsSettled plan S.Done m
StandsRound plan (R.Caught f) m = StandsSettled plan (S.Caught f) m
StandsRound plan R.PollFault m = IsDeaf m
StandsRound plan R.KeepFault m = StandsSettled plan S.KeepFault m
StandsRound plan (R.OwnMove turn fault) m = StandsSettled plan (S.OwnMove turn fault) m

-- whether a move was refused after the last choice
abbrev pub RefusesRound : Round → (refused : Bool) → Type 0
RefusesRound R.On refused = Refuses S.Idle refused
RefusesRound R.Done refused = Refuses S.Done refused
RefusesRound (R.Caught f) refused = Refuses (S.Caught f) refused
RefusesRound R.PollFault refused = Refuses S.Idle refused
RefusesRound R.KeepFault refused = Refuses S.KeepFault refused
RefusesRound (R.OwnMove turn fault) refused = Refuses (S.OwnMove turn fault) refused

pub record Rounds (by to : Chooser) (round : Round) (before after : List Item) (l m : LoopState) : Type 0 where
  pub refused : Bool
  pub refuses : RefusesRound round refused
  pub choices : ChoosesIn by to refused l m
  pub goes : GoesBy (polls_in round) before after l m
  pub stands : StandsRound by.plan round m

-- a run gave up: all polls were made, and a further one is licensed
pub record IsGivenUp (polls made : ℕ) (m : LoopState) : Type 0 where
  pub whole : IsWhole m
  pub all : made ≡ polls
  pub licensed : is_licensed (view_of m) ≡ true

-- why a run ended so, behind so many polls
abbrev pub StandsEnded : Option Plan → (polls made : ℕ) → Ended → LoopState → Type 0
StandsEnded plan polls made E.Done m = StandsSettled plan S.Done m
StandsEnded plan polls made (E.Caught f) m = StandsSettled plan (S.Caught f) m
StandsEnded plan polls made E.PollFault m = IsDeaf m
StandsEnded plan polls made E.KeepFault m = StandsSettled plan S.KeepFault m
StandsEnded plan polls made (E.OwnMove turn fault) m = StandsSettled plan (S.OwnMove turn fault) m
StandsEnded plan polls made E.GaveUp m = IsGivenUp polls made m

abbrev pub RefusesEnded : Ended → (refused : Bool) → Type 0
RefusesEnded E.Done refused = Refuses S.Done refused
RefusesEnded (E.Caught f) refused = Refuses (S.Caught f) refused
RefusesEnded E.PollFault refused = Refuses S.Idle refused
RefusesEnded E.KeepFault refused = Refuses S.KeepFault refused
RefusesEnded (E.OwnMove turn fault) refused = Refuses (S.OwnMove turn fault) refused
RefusesEnded E.GaveUp refused = Refuses S.Idle refused

pub record Ends (by to : Chooser) (polls : ℕ) (ended : Ended) (before after : List Item) (l m : LoopState) : Type 0 where
  pub refused : Bool
  pub refuses : RefusesEnded ended refused
  pub choices : ChoosesIn by to refused l m
  pub made : ℕ
  pub few : made ≤ polls
  pub goes : GoesBy made before after l m
  pub stands : StandsEnded by.plan polls made ended m
