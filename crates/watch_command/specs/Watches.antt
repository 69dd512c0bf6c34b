-- Watches: how a logger was played to its end, and what is written then.
use Rattle.std.specs.Prelude.{◌≡◌, ◌≤◌, ℕ, true, false, List, [], Result, Ok, codes}
use Rattle.definitions.specs.World.{Game}
use Rattle.socket_station.specs.Faults.{is_poll_call}
use Rattle.socket_station.specs.Items.{Item}
use Rattle.log_streams.specs.Streams.{Stream, lists_of, owners_of}
use Rattle.watch_rules.specs.declared.phases.WatchPhase.TheVariants as phase
use Rattle.watch_rules.specs.Views.{Setting, start}
use Rattle.watch_rules.specs.After.{view_of}
use Rattle.watch_rules.specs.Histories.{AreTold}
use Rattle.watch_rules.specs.Licence.{is_licensed}
use Rattle.watch_rules.specs.Told.{IsTold}
use Rattle.live_logger.specs.Going.{polls_of}
use Rattle.live_logger.specs.Polling.{all_agreed, LastIsPoll}
use Rattle.live_logger.specs.States.{WatchState, setting_for}
use Rattle.run_frame.specs.FailedCalls.{EndsBy}
use Rattle.run_frame.specs.Frame.{Answer, Ran, bare_answer}
use Rattle.run_frame.specs.Outside.{Outside}
use Rattle.run_frame.specs.declared.statuses.Status.{Status}
use Rattle.run_frame.specs.declared.statuses.Status.TheVariants.{Done, GaveUp, NoMemory, PollFault}
use Rattle.file_commands.specs.Audit.{audit_answer}
use Rattle.watch_command.specs.declared.watching.Watched.{Watched}
use Rattle.watch_command.specs.declared.watching.Watched.TheVariants as W
use Rattle.watch_command.specs.Opened.{Source}
use Rattle.watch_command.specs.Words.{Watching}

-- what its station told shows what the logger knows, which is whole
pub record IsShown (s : Setting) (items : List Item) (w : WatchState) : Type 0 where
  pub told : IsTold items w.view
  pub setting : w.view.setting ≡ s
  pub whole : w.is_out_of_memory ≡ false

-- Every turn of every player is agreed by what came; all that is there was handled, in no more polls
-- than were granted.
pub record IsAgreed (s : Setting) (polls : ℕ) (items : List Item) (w : WatchState) : Type 0 where
  pub shown : IsShown s items w
  pub agreed : all_agreed w.view ≡ true
  pub licensed : is_licensed w.view ≡ true
  pub few : polls_of items ≤ polls

-- As many polls were made as were granted, the last of them last, and some turn is not agreed.
pub record IsSpent (s : Setting) (polls : ℕ) (items : List Item) (w : WatchState) : Type 0 where
  pub shown : IsShown s items w
  pub open_turns : all_agreed w.view ≡ false
  pub all : polls_of items ≡ polls
  pub last : LastIsPoll items

-- The last call was one of listening or polling, and failed.
pub record IsDeaf (s : Setting) (polls : ℕ) (items : List Item) (w : WatchState) : Type 0 where
  pub shown : IsShown s items w
  pub fault : w.view.phase ≡ phase.PollFault
  pub failed : EndsBy is_poll_call items
  pub few : polls_of items ≤ polls

-- why the logger came to its end so; where memory ran out, what was told so far is by the rules all
-- the same
abbrev pub StandsWatched : Setting → (polls : ℕ) → Watched → List Item → WatchState → Type 0
StandsWatched s polls W.Agreed items w = IsAgreed s polls items w
StandsWatched s polls W.Spent items w = IsSpent s polls items w
StandsWatched s polls W.PollFault items w = IsDeaf s polls items w
StandsWatched s polls W.NoMemory items w = AreTold (start s) [] items × (w.is_out_of_memory ≡ true)

-- ---- what is written

-- the audit of what these streams give, as if it began afresh
abbrev pub audit_of : Game → List Stream → Answer
audit_of game streams = audit_answer game (owners_of game streams) (lists_of game streams)

-- where nothing was found, a run whose polls were all made gave up
abbrev pub spent_status : Status → Status
spent_status Done = GaveUp
spent_status status = status

-- what is written where a logger that took these streams came to its end so, and how the run ends
abbrev pub watch_answer : Game → List Stream → Watched → Answer
watch_answer game streams W.Agreed = audit_of game streams
watch_answer game streams W.Spent = record (audit_of game streams) { status = spent_status (audit_of game streams).status }
watch_answer game streams W.PollFault = record { body = codes "poll fault\n"; status = PollFault }
watch_answer game streams W.NoMemory = bare_answer NoMemory

-- The logger listened, on a station of which no call was made, and took what came until it came to
-- its end. What is written is by the streams that the history gives: for the evidence memory is taken
-- after the first byte too.
pub record WatchesLogs (w : Watching) (due : Result Source Status) (before after : Outside) (ended : Status) : Type 0 where
  pub source : Source
  pub due_is : due ≡ Ok source
  pub result : Watched
  pub last : WatchState
  pub stands : StandsWatched (setting_for source.game source.roster) w.polls result after.station last
  pub written : Ran before.output after.output (watch_answer source.game (view_of (setting_for source.game source.roster) after.station).streams result) true ⊥ ⊥ ended
