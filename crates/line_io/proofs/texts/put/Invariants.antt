use Rattle.std.proofs.Common.{length}
use Rattle.line_io.specs.Texts.{Underway}
use Rattle.line_io.proofs.texts.put.Given as goal

abbrev pub invariant-loop-rest : goal.invariant-loop-rest
invariant-loop-rest g l = Underway (g.O.Sink.state l.initial.out) (g.O.Sink.state l.out) l.initial.rest l.rest

abbrev pub decreases-loop-rest : goal.decreases-loop-rest
decreases-loop-rest g l = length l.rest
