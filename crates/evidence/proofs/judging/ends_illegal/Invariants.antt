use Rattle.std.proofs.Common.{[], length}
use Rattle.definitions.specs.Exhibits.{end_illegal}
use Rattle.evidence.proofs.Walking.{AtTurn}
use Rattle.evidence.proofs.judging.ends_illegal.Given as goal

abbrev pub invariant-loop-rest : goal.invariant-loop-rest
invariant-loop-rest l = AtTurn l.session l.player l.last l.rest (end_illegal l.session l.player l.last l.frames []) l.turn l.track

abbrev pub decreases-loop-rest : goal.decreases-loop-rest
decreases-loop-rest l = length l.rest
