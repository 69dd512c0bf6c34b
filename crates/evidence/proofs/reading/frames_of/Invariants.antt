use Rattle.std.proofs.Common.{length}
use Rattle.text_lines.specs.Lines.{ended_lines_of}
use Rattle.evidence.specs.Reading.{frames_at}
use Rattle.evidence.proofs.Loops.{AtFrame}
use Rattle.evidence.proofs.reading.frames_of.Given as goal

abbrev pub invariant-loop-rest : goal.invariant-loop-rest
invariant-loop-rest l = AtFrame l.frames.items (ended_lines_of l.rest) (frames_at 0 (ended_lines_of l.text))

abbrev pub decreases-loop-rest : goal.decreases-loop-rest
decreases-loop-rest l = length l.rest
