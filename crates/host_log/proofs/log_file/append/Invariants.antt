use Rattle.std.proofs.Common.{length}
use Rattle.host_log.proofs.Appended.{AppendedSo}
use Rattle.host_log.proofs.log_file.append.Given as goal

abbrev pub invariant-loop-rest : goal.invariant-loop-rest
invariant-loop-rest g l = AppendedSo l.bytes l.rest (g.H.Host.history l.initial.host) (g.H.Host.history l.host)

abbrev pub decreases-loop-rest : goal.decreases-loop-rest
decreases-loop-rest g l = length l.rest
