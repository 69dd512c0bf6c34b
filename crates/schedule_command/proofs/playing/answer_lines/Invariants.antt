use Rattle.std.proofs.Common.{◌-◌, ◌≤◌}
use Rattle.run_frame.specs.Turns.{PlaysOn}
use Rattle.definitions.specs.declared.limits.TheConstants.{MOST_LINES}
use Rattle.schedule_command.specs.Schedule.{schedule_from}
use Rattle.schedule_command.proofs.playing.answer_lines.Given as goal

abbrev pub invariant-lines : goal.invariant-lines
invariant-lines g l = record {
  text : PlaysOn (g.I.Source.state l.initial.input) (g.I.Source.state l.input) (g.O.Sink.state l.initial.out) (g.O.Sink.state l.out)
      (schedule_from l.initial.table l.initial.count) (schedule_from l.table l.count) l.initial.reader.pending l.reader.pending;
  few : l.count ≤ MOST_LINES;
}

abbrev pub decreases-lines : goal.decreases-lines
decreases-lines g l = MOST_LINES - l.count
