use Rattle.std.proofs.Common.{◌≡◌, ◌≤◌, ◌-◌, ◌++◌, false, length}
use Rattle.station.specs.Since.{since}
use Rattle.line_io.specs.Lines.{IsOpen}
use Rattle.line_io.specs.Readings.{Drew}
use Rattle.line_io.proofs.lines.take_line.Given as goal

abbrev pub invariant-bytes : goal.invariant-bytes
invariant-bytes g l = record {
  drew : Drew (g.I.Source.state l.initial.input) (g.I.Source.state l.input) false;
  read : l.initial.bytes ++ since (g.I.Source.state l.initial.input).seen (g.I.Source.state l.input).seen ≡ l.line.items ++ l.bytes;
  within : IsOpen l.line.items;
  short : length l.line.items ≤ 1024;
}

abbrev pub decreases-bytes : goal.decreases-bytes
decreases-bytes g l = 1024 - length l.line.items
