use Rattle.std.proofs.Common.{◌≡◌, drop, ◌==◌}
use Rattle.std.specs.Prelude.{find}
use Rattle.socket_table.proofs.finding.seat_index.Given as goal

abbrev pub invariant-loop-i : goal.invariant-loop-i
invariant-loop-i l = find (λ x. x.link.player == l.player) l.seats ≡ find (λ x. x.link.player == l.player) (drop l.i l.seats)
