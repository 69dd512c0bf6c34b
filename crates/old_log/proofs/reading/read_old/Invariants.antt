use Rattle.std.proofs.Common.{◌-◌, ◌≤◌, length}
use Rattle.old_log.specs.Old.{old_entries}
use Rattle.old_log.proofs.Asking.{IsReading}
use Rattle.old_log.proofs.reading.read_old.Given as goal

abbrev pub invariant-entries : goal.invariant-entries
invariant-entries l = record {
  within : l.reader.at ≤ length l.bytes;
  reading : IsReading l.session l.bytes l.entries.items l.reader;
}

abbrev pub decreases-entries : goal.decreases-entries
decreases-entries l = length (old_entries l.session l.bytes) - length l.entries.items
