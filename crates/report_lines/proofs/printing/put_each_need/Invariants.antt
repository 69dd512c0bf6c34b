use Rattle.std.proofs.Common.{drop, flat_map}
use Rattle.line_io.specs.Texts.{Underway}
use Rattle.report_lines.specs.Lines.{need_text}
use Rattle.report_lines.proofs.printing.put_each_need.Given as goal

abbrev pub invariant-needs : goal.invariant-needs
invariant-needs g l = Underway (g.O.Sink.state l.initial.out) (g.O.Sink.state l.out) (flat_map need_text l.needs) (flat_map need_text (drop l.need-index l.needs))
