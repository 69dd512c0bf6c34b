use Rattle.std.proofs.Common.{length, ◌≡◌}
use Rattle.run_frame.specs.Frame.{Onward}
use Rattle.line_io.specs.Inputs.{Input}
use Rattle.drive_command.specs.Outcomes.{bytes_from, MayCome}
use Rattle.drive_command.proofs.answering.bring.Given as goal

abbrev pub invariant-parts : goal.invariant-parts
invariant-parts g l = record {
  text : (input : Input) → Onward (g.O.Sink.state l.initial.out) (g.O.Sink.state l.out) (bytes_from l.initial.driver l.from l.bytes input) (bytes_from l.driver l.from l.rest input);
  may : MayCome l.driver l.from l.rest;
  lines : l.driver.lines ≡ l.initial.driver.lines;
}

abbrev pub decreases-parts : goal.decreases-parts
decreases-parts g l = length l.rest
