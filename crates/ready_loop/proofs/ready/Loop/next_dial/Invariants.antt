use Rattle.std.proofs.Common.{◌≡◌, ◌<◌, ℕ, Some, slice_get, false}
use Rattle.socket_lines.specs.declared.seat.Seat.{Seat}
use Rattle.loop_rules.specs.Rules.{wants_dial}
use Rattle.ready_loop.proofs.ready.Loop.next_dial.Given as goal

abbrev pub invariant-loop-seat : goal.invariant-loop-seat
invariant-loop-seat l = (k : ℕ) (c : Seat) → k < l.seat → slice_get l.self.table.seats k ≡ Some c → wants_dial l.self.peer.me l.self.table c ≡ false
