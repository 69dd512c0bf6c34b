-- Runs: the log kept, as the protocol's run over its own choices and the frames that came.
use Rattle.std.specs.Prelude.{◌≡◌, ◌≤◌, List, ◌++◌, length}
use Rattle.definitions.specs.declared.logs.Entry.{Entry}
use Rattle.definitions.specs.Honest.{IsHonest}
use Rattle.definitions.specs.Advance.{advance}
use Rattle.definitions.specs.Steps.{log_run}
use Rattle.socket_station.specs.Items.{Item}
use Rattle.peer_rules.specs.Steps.{steps_told}
use Rattle.loop_rules.specs.Settings.{Setting}
use Rattle.loop_rules.specs.After.{view_of}
use Rattle.loop_rules.specs.Histories.{IsHistory}

-- The log begins with the entries taken over. With the own frames that may be made by now, it is what the protocol's run comes to that begins with
-- those entries, advanced, and takes as its steps the choices and the frames that came behind them, in their order.
pub record GoesAsRun (s : Setting) (log : List Entry) : Type 0 where
  pub rest : List Entry
  pub over : log ≡ s.over ++ rest
  pub run : advance s.game s.me log ≡ log_run s.game s.me (advance s.game s.me s.over) (steps_told rest)

-- the log kept is the protocol's run, once the entries taken over are kept
abbrev pub LogsAreRuns : Type 0
LogsAreRuns = (s : Setting) (items : List Item) → 1 ≤ s.game.ahead → IsHonest s.game s.me s.over → IsHistory s items →
    length s.over ≤ length (view_of s items).kept → GoesAsRun s (view_of s items).kept
