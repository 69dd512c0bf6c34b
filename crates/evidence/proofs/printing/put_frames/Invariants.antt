use Rattle.std.proofs.Common.{◌≡◌, ◌++◌, drop, map}
use Rattle.text_lines.specs.Lines.{joined}
use Rattle.evidence.specs.Text.{frame_line}
use Rattle.evidence.proofs.printing.put_frames.Given as goal

abbrev pub invariant-loop-frame : goal.invariant-loop-frame
invariant-loop-frame l = l.out.items ++ joined (map frame_line (drop l.frame-index l.frames)) ≡ l.initial.out.items ++ joined (map frame_line l.frames)
