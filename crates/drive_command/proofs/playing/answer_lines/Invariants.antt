use Rattle.std.proofs.Common.{◌-◌}
use Rattle.run_frame.specs.Turns.{PlaysOn}
use Rattle.definitions.specs.declared.limits.TheConstants.{MOST_LINES}
use Rattle.drive_command.specs.Outcomes.{driven_from}
use Rattle.drive_command.proofs.playing.answer_lines.Given as goal

abbrev pub invariant-lines : goal.invariant-lines
invariant-lines g l =
    PlaysOn (g.I.Source.state l.initial.input) (g.I.Source.state l.input) (g.O.Sink.state l.initial.out) (g.O.Sink.state l.out)
    (driven_from l.initial.driver) (driven_from l.driver) l.initial.reader.pending l.reader.pending

abbrev pub decreases-lines : goal.decreases-lines
decreases-lines g l = MOST_LINES - l.driver.lines
