-- WatchLaw: what is promised of `watch`: the logs of all players of a session are taken over sockets
-- while they play, and what they show together is printed.
use Rattle.std.specs.Prelude.{◌≡◌, ◌⊎◌, ℕ, true, false, List, [], Result, Ok, Err}
use Rattle.definitions.specs.Lists.{item_or}
use Rattle.line_io.specs.Files.{AreContents, Contents}
use Rattle.socket_station.specs.Faults.{is_poll_call}
use Rattle.socket_station.specs.Items.{Item}
use Rattle.run_frame.specs.FailedCalls.{FailsNone}
use Rattle.run_frame.specs.Frame.{Answer, bare_answer}
use Rattle.run_frame.specs.Law.{Law}
use Rattle.run_frame.specs.Opening.{Found}
use Rattle.run_frame.specs.declared.statuses.Status.{Status}
use Rattle.run_frame.specs.declared.statuses.Status.TheVariants.{Done, Caught, GaveUp, NoMemory, Usage, BadSession, BadLine}
use Rattle.file_commands.specs.AuditLaws.{DifferentMovesAreTold}
use Rattle.watch_rules.specs.Laws.{GivenIsOneWant, PollsAreLicensed}
use Rattle.watch_command.specs.Opened.{MayReadRoster, Source, source_for, source_names}
use Rattle.watch_command.specs.Watches.{WatchesLogs}
use Rattle.watch_command.specs.Words.{Watching}

-- what is told where no call of the station is made: why there is nothing to go by; where there is
-- something, only memory can be wanting
abbrev pub unwatched_answer : Result Source Status → Answer
unwatched_answer (Err status) = bare_answer status
unwatched_answer (Ok source) = bare_answer NoMemory

-- Why it may end so: the files are refused by this status, or they give something to go by. How the
-- logger came to its end by what its station answered is part of `WatchesLogs`.
abbrev pub watch_cause : Result Source Status → Status → Type 0
watch_cause due Usage = due ≡ Err Usage
watch_cause due (BadSession line what) = due ≡ Err (BadSession line what)
watch_cause due (BadLine text line) = due ≡ Err (BadLine text line)
watch_cause due status = Found due

-- The files give something to go by, and neither listening nor a poll failed.
pub record IsGoodWatch (due : Result Source Status) (items : List Item) : Type 0 where
  pub source : Source
  pub due_is : due ≡ Ok source
  pub calls : FailsNone is_poll_call items

-- What is so of every history of a logger, and so of that of the run, and of every text of an audit.
pub record IsWatch : Type 0 where
  -- what it gives on a socket in all begins one WANT, of the place that the HELLO on it found
  pub given : GivenIsOneWant
  -- it waits only where a poll is licensed
  pub licensed : PollsAreLicensed
  -- and where two logs resolve a turn by different moves, the text shows it to whoever has the session
  pub faces : DifferentMovesAreTold

abbrev pub watch_law : Watching → Law
watch_law w = record {
  names = source_names w;
  -- the roster is read only where there is a session
  due = λ before after calls. (contents : Contents) → AreContents contents calls → (k : ℕ) → (item_or calls k [] ≡ []) ⊎ MayReadRoster contents k;
  asks = λ before after. after ≡ before;
  answer = λ contents input. unwatched_answer (source_for contents);
  plays = λ contents before after status. WatchesLogs w (source_for contents) before after status;
  over = λ contents. Unit {0};
  through = λ status ended. Unit {0};
  memory = true;
  late = false;
  first = true;
  cause = λ contents input status. watch_cause (source_for contents) status;
  good = λ contents input answered. IsGoodWatch (source_for contents) answered.station;
  -- all is agreed, something was found, all polls were made, or memory was wanting for what came
  ends = λ status. (status ≡ Done) ⊎ ((status ≡ Caught) ⊎ ((status ≡ GaveUp) ⊎ (status ≡ NoMemory)));
  meant = λ contents input. IsWatch;
}
