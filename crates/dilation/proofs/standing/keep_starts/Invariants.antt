use Rattle.dilation.specs.Following.{AreFresh}
use Rattle.dilation.proofs.Seats.{first_starts}
use Rattle.dilation.proofs.standing.keep_starts.Given as goal

abbrev pub invariant-loop-player : goal.invariant-loop-player
invariant-loop-player l = AreFresh l.session (first_starts l.session l.player) l.kept.items
