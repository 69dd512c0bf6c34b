-- Playing: what stands after whole runs.
use Rattle.std.specs.Prelude.{◌≡◌, ◌≤◌, ℕ, Bool, true, List, [], Option, length}
use Rattle.pilots.specs.Plans.{Plan}
use Rattle.datagram_post.specs.Items.{Item}
use Rattle.own_moves.specs.Choices.{Chooser, ChoosesBy}
use Rattle.peer_rules.specs.declared.arrivals.Arrival.{Arrival}
use Rattle.peer_rules.specs.declared.phases.Phase.TheVariants.{PollFault}
use Rattle.post_rules.specs.Views.{Settling, View, new_settling}
use Rattle.post_rules.specs.Licence.{is_licensed}
use Rattle.post_rules.specs.Histories.{Follows}
use Rattle.datagram_loop.specs.declared.settling.Settled.{Settled}
use Rattle.datagram_loop.specs.declared.settling.Settled.TheVariants as S
use Rattle.loop_ends.specs.declared.ends.Ended.{Ended}
use Rattle.loop_ends.specs.declared.ends.Ended.TheVariants as E
use Rattle.datagram_loop.specs.States.{LoopState, setting_of, view_of, IsReady}
use Rattle.datagram_loop.specs.Settling.{StandsSettled, Refuses}

-- how a run ended whose last settling ended so
abbrev pub ended_of : Settled → Ended
ended_of S.Idle = E.GaveUp
ended_of S.Done = E.Done
ended_of (S.Caught f) = E.Caught f
ended_of S.KeepFault = E.KeepFault
ended_of (S.OwnMove turn fault) = E.OwnMove turn fault

-- a run gave up: all polls were made, and a further one is licensed
pub record IsGivenUp (polls made : ℕ) (v : View) (m : LoopState) : Type 0 where
  pub ready : IsReady m
  pub all : made ≡ polls
  pub licensed : is_licensed v ≡ true

-- a poll failed: nothing is heard any more, but every entry is kept and synced
pub record IsDeaf (m : LoopState) : Type 0 where
  pub fault : m.phase ≡ PollFault
  pub kept : m.kept ≡ length m.peer.entries
  pub synced : m.synced ≡ m.kept

-- why a run ended so, after so many polls, with this shown
abbrev pub StandsEnded : Option Plan → (polls made : ℕ) → Ended → View → LoopState → Type 0
StandsEnded plan polls made E.Done v m = StandsSettled plan S.Done v m
StandsEnded plan polls made (E.Caught f) v m = StandsSettled plan (S.Caught f) v m
StandsEnded plan polls made E.PollFault v m = IsDeaf m
StandsEnded plan polls made E.KeepFault v m = StandsSettled plan S.KeepFault v m
StandsEnded plan polls made (E.OwnMove turn fault) v m = StandsSettled plan (S.OwnMove turn fault) v m
StandsEnded plan polls made E.GaveUp v m = IsGivenUp polls made v m

-- whether a move was refused after the last choice
abbrev pub RefusesEnded : Ended → (refused : Bool) → Type 0
RefusesEnded E.Done refused = Refuses S.Done refused
RefusesEnded (E.Caught f) refused = Refuses (S.Caught f) refused
RefusesEnded E.PollFault refused = Refuses S.Idle refused
RefusesEnded E.KeepFault refused = Refuses S.KeepFault refused
RefusesEnded (E.OwnMove turn fault) refused = Refuses (S.OwnMove turn fault) refused
RefusesEnded E.GaveUp refused = Refuses S.Idle refused

-- The history of the play is one by the rules, from nothing done since its begin, with at most so
-- many polls. The own moves in it are the chooser's.
pub record Ends (by to : Chooser) (polls : ℕ) (ended : Ended) (before after : List Item) (l m : LoopState) : Type 0 where
  pub waiting : List Arrival
  pub settling : Settling
  pub follows : Follows (view_of [] new_settling l) (view_of waiting settling m) before after
  pub setting : setting_of m ≡ setting_of l
  pub refused : Bool
  pub refuses : RefusesEnded ended refused
  pub choices : ChoosesBy l.peer.game l.peer.me by to refused l.peer.entries m.peer.entries
  pub few : settling.polls ≤ polls
  pub stands : StandsEnded by.plan polls settling.polls ended (view_of waiting settling m) m
