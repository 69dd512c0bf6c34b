use Rattle.std.proofs.Common.{◌≡◌, ◌+◌, drop, length}
use Rattle.session_log.specs.Spelling.{log_bytes}
use Rattle.session_log.specs.Writing.{all_written}
use Rattle.old_log.proofs.places.place_behind.Given as goal

abbrev pub invariant-loop-entry : goal.invariant-loop-entry
invariant-loop-entry l = l.count + length (all_written l.writer (drop l.entry-index l.entries)) ≡ length (log_bytes l.session.id l.owner l.entries)
