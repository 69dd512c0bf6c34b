-- Steps: the log of a run, as the protocol's run over its steps.
use Rattle.std.specs.Prelude.{◌≡◌, List, ◌++◌}
use Rattle.definitions.specs.declared.logs.Entry.{Entry}
use Rattle.definitions.specs.Advance.{advance}
use Rattle.definitions.specs.Steps.{log_run}
use Rattle.peer_core.specs.Views.{PeerState}
use Rattle.peer_rules.specs.Steps.{steps_told}

-- The log is the protocol's run that begins with the entries taken over, advanced, and takes as its steps the log's own choices and the frames that
-- came behind those entries, in their order. So each own frame stands in it as soon as it may be made, and none is left to be made.
pub record IsLogRun (p : PeerState) (log : List Entry) : Type 0 where
  pub rest : List Entry
  pub over : log ≡ p.entries ++ rest
  pub run : log ≡ log_run p.game p.me (advance p.game p.me p.entries) (steps_told rest)
