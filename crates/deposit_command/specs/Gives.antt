-- Gives: what is made of the station, of the log's file and of the output by what was opened.
use Rattle.std.specs.Prelude.{List, []}
use Rattle.station.specs.Shelves.{ShelfState}
use Rattle.station.specs.Sinks.{SinkState}
use Rattle.socket_station.specs.Items.{Item}
use Rattle.run_frame.specs.Frame.{Ends}
use Rattle.run_frame.specs.declared.statuses.Status.{Status}
use Rattle.deposit_rules.specs.Views.{View, start}
use Rattle.live_deposit.specs.declared.deposit.Deposited.{Deposited}
use Rattle.live_deposit.specs.States.{setting_for}
use Rattle.live_deposit.specs.Sending.{Sends}
use Rattle.deposit_command.specs.Deposits.{deposit_answer}
use Rattle.deposit_command.specs.Words.{Depositing}
use Rattle.deposit_command.specs.declared.opening.DepositSource.{DepositSource}

-- The log was given by a first and only call of `send`, and how that ended was written.
pub record GivesLog (d : Depositing) (s : DepositSource) (items : List Item)
    (read shelf : ShelfState) (before now : SinkState) (ended : Status) : Type 0 where
  pub result : Deposited
  -- what the depositor knew at the end
  pub last : View
  pub sends : Sends d.log d.polls result [] items read shelf
      (start (setting_for s.logger s.session d.player)) last
  pub written : Ends before now (deposit_answer d.polls result) ended
