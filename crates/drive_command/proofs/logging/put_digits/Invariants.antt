use Rattle.std.proofs.Common.{drop}
use Rattle.hex.specs.Hex.{encode_lower}
use Rattle.line_io.specs.Texts.{Underway}
use Rattle.session_log.specs.Writing.{all_written}
use Rattle.drive_command.proofs.logging.put_digits.Given as goal

abbrev pub invariant-entries : goal.invariant-entries
invariant-entries g l =
    Underway (g.O.Sink.state l.initial.out) (g.O.Sink.state l.out) (encode_lower (all_written l.initial.writer l.entries)) (encode_lower (all_written l.writer (drop l.entry-index l.entries)))
