use Rattle.std.proofs.Common.{drop, flat_map}
use Rattle.line_io.specs.Texts.{Underway}
use Rattle.schedule_command.specs.Lines.{entry_line}
use Rattle.schedule_command.proofs.telling.put_entries.Given as goal

abbrev pub invariant-entries : goal.invariant-entries
invariant-entries g l =
    Underway (g.O.Sink.state l.initial.out) (g.O.Sink.state l.out) (flat_map (entry_line l.player) l.entries) (flat_map (entry_line l.player) (drop l.entry-index l.entries))
