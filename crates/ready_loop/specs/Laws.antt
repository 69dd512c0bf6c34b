-- Laws: what holds of a whole run, from its beginning to its end.
use Rattle.std.specs.Prelude.{◌≡◌, ◌≤◌, ℕ, ◌+◌, Bool, false, List}
use Rattle.socket_station.specs.Items.{Item}
use Rattle.loop_rules.specs.Histories.{RunEnd, Handled, AtOwnMove, IsHistoryOf}
use Rattle.loop_rules.specs.Told.{IsTold}
use Rattle.loop_laws.specs.Sockets.{SocketsAreNew}
use Rattle.loop_ends.specs.declared.ends.Begun.{Begun}
use Rattle.loop_ends.specs.declared.ends.Begun.TheVariants as B
use Rattle.ready_loop.specs.declared.settling.Settled.{Settled}
use Rattle.ready_loop.specs.declared.polling.Round.{Round}
use Rattle.ready_loop.specs.declared.polling.Round.TheVariants as R
use Rattle.loop_ends.specs.declared.ends.Ended.{Ended}
use Rattle.loop_ends.specs.declared.ends.Ended.TheVariants as E
use Rattle.ready_loop.specs.States.{LoopState, kept_of, setting_of, view_of}
use Rattle.own_moves.specs.Choices.{Chooser, ChoosesBy}
use Rattle.ready_loop.specs.Beginning.{given_by, IsNew, Begins}
use Rattle.ready_loop.specs.Going.{polls_of}
use Rattle.ready_loop.specs.Settling.{Settles}
use Rattle.ready_loop.specs.Polling.{is_round_on, ended_of, ended_at, Rounds, StandsEnded, RefusesEnded, Ends}

-- however a beginning ends, its history is a whole one, of what the loop was given and of the log kept
abbrev pub BeginningsAreHistories : Type 0
BeginningsAreHistories = (name : List ℕ) (begun : Begun) (l m : LoopState) (items : List Item) → IsNew l → Begins name begun l m items →
    IsHistoryOf (given_by l.peer l.roster) name Handled items (kept_of m)

-- how the history ends of a run that ended so
abbrev pub end_of : Ended → RunEnd
end_of E.Done = Handled
end_of (E.Caught f) = Handled
end_of E.PollFault = Handled
end_of E.KeepFault = Handled
end_of (E.OwnMove turn fault) = AtOwnMove
end_of E.GaveUp = Handled

-- From the new loop `l` to `n`, with so many polls granted. The history is a whole one, of what the
-- loop was given and of the log kept, and shows what the loop knows at its end. The numbers of the
-- sockets in it are new, as the laws of histories by their items alone want it. It has no more
-- polls than were granted, and the run ended so for its reason, by the polls in it. That log is the
-- peer's, where no call of the log failed, and else its front. Its choices are those taken over and
-- further ones by the chooser.
pub record IsRun (name : List ℕ) (by to : Chooser) (polls : ℕ) (ended : Ended) (l n : LoopState) (items : List Item) : Type 0 where
  pub history : IsHistoryOf (given_by l.peer l.roster) name (end_of ended) items (kept_of n)
  pub setting : setting_of n ≡ given_by l.peer l.roster
  pub told : IsTold items (view_of n)
  pub new : SocketsAreNew items
  pub few : polls_of items ≤ polls
  pub stands : StandsEnded by.plan polls (polls_of items) ended n
  pub kept : (ended ≡ E.KeepFault → ⊥) → kept_of n ≡ n.peer.entries
  pub refused : Bool
  pub refuses : RefusesEnded ended refused
  pub choices : ChoosesBy l.peer.game l.peer.me by to refused l.peer.entries n.peer.entries

-- a new loop that is begun and then plays to an end makes a whole run
abbrev pub RunsAreWhole : Type 0
RunsAreWhole = (name : List ℕ) (by to : Chooser) (polls : ℕ) (ended : Ended) (l m n : LoopState) (start items : List Item) → IsNew l → Begins name B.Ready l m start → Ends by to polls ended start items m n →
    IsRun name by to polls ended l n items

-- a settling is the end of a run with no further poll, and so is a round that ends it
abbrev pub SettlingsEndRuns : Type 0
SettlingsEndRuns = (by to : Chooser) (settled : Settled) (before after : List Item) (l m : LoopState) → Settles by to settled before after l m → Ends by to 0 (ended_at settled) before after l m

abbrev pub RoundsEndRuns : Type 0
RoundsEndRuns = (by to : Chooser) (round : Round) (before after : List Item) (l m : LoopState) → Rounds by to round before after l m → is_round_on round ≡ false → Ends by to 0 (ended_of round) before after l m

-- a round that goes on, and then a run, is a run with one more poll
abbrev pub RoundsLeadRuns : Type 0
RoundsLeadRuns = (by mid to : Chooser) (polls : ℕ) (ended : Ended) (before between after : List Item) (l m n : LoopState) → Rounds by mid R.On before between l m → Ends mid to polls ended between after m n → Ends by to (polls + 1) ended before after l n
