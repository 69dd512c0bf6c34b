use Rattle.std.proofs.Common.{◌≡◌}
use Rattle.dilation.proofs.Seats.{first_starts}
use Rattle.dilation.proofs.standing.starts_of.Given as goal

abbrev pub invariant-loop-player : goal.invariant-loop-player
invariant-loop-player l = l.cells.items ≡ first_starts l.session l.player
