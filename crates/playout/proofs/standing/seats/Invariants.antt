use Rattle.std.proofs.Common.{◌≡◌}
use Rattle.playout.proofs.Standings.{first_seated}
use Rattle.playout.proofs.standing.seats.Given as goal

abbrev pub invariant-loop-player : goal.invariant-loop-player
invariant-loop-player l = l.standings.items ≡ first_seated l.session l.player
