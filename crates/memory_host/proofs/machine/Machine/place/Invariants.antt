use Rattle.std.proofs.Common.{◌<◌, IfSome, length}
use Rattle.memory_host.proofs.machine.Machine.place.Given as goal

abbrev pub invariant-loop-place : goal.invariant-loop-place
invariant-loop-place l = IfSome l.found (λ place. place < length l.self.lines.items)
