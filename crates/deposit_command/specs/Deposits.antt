-- Deposits: what a run makes of the station and of the log's file, and what it writes then.
use Rattle.std.specs.Prelude.{◌≡◌, ◌<◌, ℕ, List, [], Result, Ok, codes}
use Rattle.definitions.specs.World.{players_of}
use Rattle.station.specs.Shelves.{ShelfState}
use Rattle.line_io.specs.Files.{Calls, ReadsFiles}
use Rattle.run_frame.specs.Frame.{Answer, Ends}
use Rattle.run_frame.specs.Outside.{Outside}
use Rattle.run_frame.specs.Polls.{gave_up_text}
use Rattle.run_frame.specs.declared.statuses.Status.{Status}
use Rattle.run_frame.specs.declared.statuses.Status.TheVariants as status
use Rattle.deposit_rules.specs.Views.{View, start}
use Rattle.live_deposit.specs.declared.deposit.Deposited.{Deposited}
use Rattle.live_deposit.specs.declared.deposit.Deposited.TheVariants.{Sent, GaveUp, PollFault, ShelfFault}
use Rattle.live_deposit.specs.States.{setting_for}
use Rattle.live_deposit.specs.Sending.{Sends}
use Rattle.deposit_command.specs.Opened.{Source, source_names}
use Rattle.deposit_command.specs.Words.{Depositing}

-- what is written where a deposit ended so, and how the run ends; a fault has its own line at the end
abbrev pub deposit_answer : (polls : ℕ) → Deposited → Answer
deposit_answer polls Sent = record { body = codes "sent\n"; status = status.Done }
deposit_answer polls GaveUp = record { body = gave_up_text polls; status = status.GaveUp }
deposit_answer polls PollFault = record { body = codes "poll fault\n"; status = status.PollFault }
deposit_answer polls ShelfFault = record { body = []; status = status.InputFault }

-- The log was deposited by a first and only call of `send`, on a station of which no call was made.
pub record DepositsLog (d : Depositing) (due : Result Source Status) (before after : Outside) (ended : Status) : Type 0 where
  pub source : Source
  pub due_is : due ≡ Ok source
  pub seated : d.player < players_of source.game
  -- the shelf after these calls, by which the session and the roster were read, and in which it
  -- didn't fail
  pub read : ShelfState
  pub calls : Calls
  pub files : ReadsFiles (source_names d) before.shelf read calls
  pub counted : read.faults ≡ before.shelf.faults
  -- how it ended, and what the depositor knew then
  pub result : Deposited
  pub last : View
  -- what the station and the shelf were asked, and why it ended so
  pub sends : Sends d.log d.polls result [] after.station read after.shelf (start (setting_for source.logger source.game d.player)) last
  pub written : Ends before.output after.output (deposit_answer d.polls result) ended
