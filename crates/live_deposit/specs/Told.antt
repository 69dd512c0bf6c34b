-- Told: what a depositor's station told, and what the depositor knows of it.
use Rattle.std.specs.Prelude.{◌≡◌, ℕ, ◌≤◌, true, List, []}
use Rattle.socket_station.specs.declared.answers.Standing.TheVariants.{Open}
use Rattle.socket_station.specs.Items.{Item}
use Rattle.socket_station.specs.Standings.{standing_in}
use Rattle.deposit_rules.specs.declared.phases.DepositPhase.TheVariants.{Giving}
use Rattle.deposit_rules.specs.Views.{View, start}
use Rattle.deposit_rules.specs.After.{view_of}
use Rattle.deposit_rules.specs.Laws.{AreTold}

-- For a log of these bytes the items come one after the other as the rules allow, the sockets that
-- they open are new, and they show what the depositor knows.
pub record IsTold (log : List ℕ) (items : List Item) (v : View) : Type 0 where
  pub told : AreTold log (start v.setting) [] items
  pub shown : view_of v.setting items ≡ v

-- its socket is open where it knows no other, and no more of it was read than taken
pub record Stands (items : List Item) (v : View) : Type 0 where
  pub opened : v.line.is_open ≡ true → standing_in items v.line.socket ≡ Open
  pub place : v.line.reader.place ≤ v.line.taken

-- before a call: no poll failed, and what it knows stands
pub record IsReady (items : List Item) (v : View) : Type 0 where
  pub giving : v.phase ≡ Giving
  pub stands : Stands items v
