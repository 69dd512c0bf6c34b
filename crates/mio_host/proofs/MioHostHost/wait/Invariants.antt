use Rattle.std.proofs.Common.{◌+◌, ◌≤◌, length}
use Rattle.std.specs.Slice.Iter.{iter_rest}
use Rattle.arrayvec.specs.ArrayVec.{array_vec_len}
use Rattle.machine_host.specs.declared.hosts.TheConstants.{MOST_EVENTS}
use Rattle.mio_host.proofs.MioHostHost.wait.Given as goal

abbrev pub invariant-loop-event : goal.invariant-loop-event
invariant-loop-event g l =
    (goal.iterator-loop-event g).can_next l.event-iterator ×
    (goal.iterator-loop-event g).is_finite l.event-iterator ×
    (array_vec_len l.tokens + length (iter_rest l.event-iterator) ≤ MOST_EVENTS)
