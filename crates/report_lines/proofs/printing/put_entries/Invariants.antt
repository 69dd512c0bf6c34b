use Rattle.std.proofs.Common.{drop, flat_map}
use Rattle.line_io.specs.Texts.{Underway}
use Rattle.report_lines.specs.Lines.{entry_report}
use Rattle.report_lines.proofs.printing.put_entries.Given as goal

abbrev pub invariant-entries : goal.invariant-entries
invariant-entries g l = Underway (g.O.Sink.state l.initial.out) (g.O.Sink.state l.out) (flat_map entry_report l.entries) (flat_map entry_report (drop l.entry-index l.entries))
