-- Plays: what a run makes of the station and the generator.
use Rattle.std.specs.Prelude.{◌≡◌, ◌⊎◌, ℕ, List, Option}
use Rattle.definitions.specs.Honest.{IsHonest}
use Rattle.station.specs.Sinks.{SinkState}
use Rattle.socket_station.specs.Items.{Item}
use Rattle.rosters.specs.Rosters.{Neighbours}
use Rattle.peer_core.specs.Views.{PeerState}
use Rattle.run_frame.specs.Frame.{Ends}
use Rattle.run_frame.specs.declared.statuses.Status.{Status}
use Rattle.loop_ends.specs.declared.ends.Ended.{Ended}
use Rattle.loop_ends.specs.declared.ends.Ended.TheVariants as E
use Rattle.ready_loop.specs.States.{LoopState}
use Rattle.own_moves.specs.Choices.{Chooser}
use Rattle.ready_loop.specs.Beginning.{new_loop}
use Rattle.ready_loop.specs.Counts.{held_by}
use Rattle.ready_loop.specs.Laws.{IsRun}
use Rattle.match_ends.specs.Ends.{match_answer}
use Rattle.peer_command.specs.Fair.{IsFairMatch}
use Rattle.seat_files.specs.Unplayed.{MadeNoCall}
use Rattle.run_frame.specs.FailedCalls.{FailsNone}
use Rattle.peer_command.specs.Faults.{StandsByFaults, is_listen_call}
use Rattle.peer_command.specs.Steps.{IsLogRun}

-- The loop was begun, with a log of this name, and played to its end.
pub record PlaysOut (log : List ℕ) (by to : Chooser) (polls : ℕ) (ended : Ended) (l n : LoopState) (items : List Item) : Type 0 where
  -- its station told a whole history, of no more polls than were granted; why it ended so, by these polls; the log kept is the peer's, but for an
  -- end of the log itself; and whose the choices in it are
  pub run : IsRun log by to polls ended l n items
  -- and which failed calls stand behind that
  pub faults : StandsByFaults ended items
  -- the peer of which the end is told is honest, after a fault of the log too
  pub honest : IsHonest n.peer.game n.peer.me n.peer.entries

-- what a run plays with: the peer, the others, the byte from which on an older log was dropped, if it was, the name of the log, and how many polls are
-- granted
pub record Start : Type 0 where
  pub peer : PeerState
  pub roster : Neighbours
  pub dropped : Option ℕ
  pub log : List ℕ
  pub polls : ℕ

-- The run played, and wrote the end of its loop.
pub record PlayedOut (s : Start) (by to : Chooser) (items : List Item) (before now : SinkState) (status : Status) : Type 0 where
  pub ended : Ended
  pub last : LoopState
  pub plays : PlaysOut s.log by to s.polls ended (new_loop s.peer s.roster) last items
  -- what its station told shows fair play
  pub fair : IsFairMatch s.peer s.roster items
  -- and where it listened, and no call of the log failed, the peer's log at the end is the protocol's run
  pub steps : (ended ≡ E.KeepFault → ⊥) → FailsNone is_listen_call items → IsLogRun s.peer last.peer.entries
  pub written : Ends before now (match_answer s.dropped s.polls ended last.peer (held_by last)) status

abbrev pub PlaysPeer : Start → (by to : Chooser) → (items items' : List Item) → (before now : SinkState) → Status → Type 0
PlaysPeer s by to items items' before now status = MadeNoCall Chooser Item by to items items' before now status ⊎ PlayedOut s by to items' before now status
