-- DepositLaw: what is promised of `deposit`: a player gives its log to a live logger over sockets.
use Rattle.std.specs.Prelude.{◌≡◌, ◌⊎◌, ℕ, Bool, true, false, List, [], Result, Ok, Err}
use Rattle.definitions.specs.Lists.{item_or}
use Rattle.line_io.specs.Files.{AreContents, Contents}
use Rattle.socket_station.specs.Faults.{is_poll_call}
use Rattle.socket_station.specs.Items.{Item}
use Rattle.run_frame.specs.Frame.{Answer, bare_answer}
use Rattle.run_frame.specs.Law.{Law}
use Rattle.run_frame.specs.Opening.{Found}
use Rattle.run_frame.specs.Outside.{Outside}
use Rattle.run_frame.specs.FailedCalls.{FailsNone}
use Rattle.run_frame.specs.declared.statuses.Status.{Status}
use Rattle.run_frame.specs.declared.statuses.Status.TheVariants.{Done, GaveUp, NoMemory, Usage, BadSession, BadLine}
use Rattle.deposit_rules.specs.Laws.{GivenIsHelloAndLog, PollsAreLicensed}
use Rattle.live_deposit.specs.Logs.{Asks}
use Rattle.deposit_command.specs.Deposits.{DepositsLog}
use Rattle.deposit_command.specs.Opened.{MayReadRoster, Source, source_for, source_names}
use Rattle.deposit_command.specs.Words.{Depositing}

-- what is told where no call of the station is made: why there is nothing to go by
abbrev pub undeposited_answer : Result Source Status → Answer
undeposited_answer (Err status) = bare_answer status
undeposited_answer (Ok source) = bare_answer NoMemory

-- Why it may end so: the files are refused by this status, or they give something to go by. How a
-- deposit ends by what its station and its shelf answered is part of `Sends`.
abbrev pub deposit_cause : Result Source Status → Status → Type 0
deposit_cause due Usage = due ≡ Err Usage
deposit_cause due (BadSession line what) = due ≡ Err (BadSession line what)
deposit_cause due (BadLine text line) = due ≡ Err (BadLine text line)
deposit_cause due status = Found due

-- The files give something to go by, and no poll failed. Links that fail and dials that nobody
-- answers don't matter here.
pub record IsGoodDeposit (due : Result Source Status) (items : List Item) : Type 0 where
  pub source : Source
  pub due_is : due ≡ Ok source
  pub polls : FailsNone is_poll_call items

-- What is so of every history of a depositor, and so of that of the run.
pub record IsDeposit : Type 0 where
  -- what it gives on a socket in all are the first bytes of its HELLO and of the log from the place
  -- that a WANT on that socket asked for
  pub given : GivenIsHelloAndLog
  -- and it waits only where a poll is licensed
  pub licensed : PollsAreLicensed

abbrev pub deposit_law : Depositing → Law
deposit_law d = record {
  names = source_names d;
  -- the roster is read only where the session has the player
  due = λ before after calls. (contents : Contents) → AreContents contents calls → (k : ℕ) → (item_or calls k [] ≡ []) ⊎ MayReadRoster d contents k;
  -- the log's file alone is asked for after that, at whatever places
  asks = λ before after. (failed : Bool) × Asks d.log failed before after;
  answer = λ contents input. undeposited_answer (source_for d contents);
  plays = λ contents before after status. DepositsLog d (source_for d contents) before after status;
  over = λ contents. Unit {0};
  through = λ status ended. Unit {0};
  memory = true;
  late = false;
  first = true;
  cause = λ contents input status. deposit_cause (source_for d contents) status;
  good = λ contents input answered. IsGoodDeposit (source_for d contents) answered.station;
  -- all was sent, or all polls were made
  ends = λ status. (status ≡ Done) ⊎ (status ≡ GaveUp);
  meant = λ contents input. IsDeposit;
}
