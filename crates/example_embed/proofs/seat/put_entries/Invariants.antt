use Rattle.std.proofs.Common.{◌≡◌, drop, ◌++◌}
use Rattle.session_log.specs.Writing.{all_written}
use Rattle.example_embed.proofs.seat.put_entries.Given as goal

abbrev pub invariant-loop-entry : goal.invariant-loop-entry
invariant-loop-entry l = l.disk.items ++ all_written l.writer (drop l.entry-index l.entries) ≡ l.initial.disk.items ++ all_written l.initial.writer l.entries
