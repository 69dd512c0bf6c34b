-- FileAsks: what a machine was asked for its files, and what it answered, call by call.
use Rattle.std.specs.Prelude.{ℕ, List, Option, Result}
use Rattle.machine_host.specs.declared.faults.HostFault.{HostFault}

-- Each call, with what it was asked and then what it answered. A file goes by the number that it
-- was opened under. Where a call only succeeds or fails, None says that it succeeded.
pub data FileAsk : Type 0 where
  -- the number of the file, and its path
  Opened : ℕ → List ℕ → Option HostFault → FileAsk
  -- the file, and the place that its next read begins at
  Sought : ℕ → ℕ → Option HostFault → FileAsk
  -- the file, and the bytes that it gave
  Read : ℕ → Result (List ℕ) HostFault → FileAsk
