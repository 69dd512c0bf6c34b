use Rattle.std.proofs.Common.{◌-◌, ◌≤◌}
use Rattle.station.specs.Sinks.{SinkState}
use Rattle.run_frame.specs.Turns.{PlaysOn}
use Rattle.definitions.specs.declared.limits.TheConstants.{MOST_LINES}
use Rattle.schedule_command.specs.Schedule.{opened_from}
use Rattle.schedule_command.proofs.opening.open.Given as goal

abbrev pub invariant-lines : goal.invariant-lines
invariant-lines g l = record {
  text : (sink : SinkState) → PlaysOn (g.I.Source.state l.initial.input) (g.I.Source.state l.input) sink sink (opened_from l.session 0) (opened_from l.session l.lines) l.initial.reader.pending l.reader.pending;
  few : l.lines ≤ MOST_LINES;
}

abbrev pub decreases-lines : goal.decreases-lines
decreases-lines g l = MOST_LINES - l.lines
