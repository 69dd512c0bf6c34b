use Rattle.line_io.specs.Inputs.{End}
use Rattle.schedule_command.specs.Schedule.{first_table, schedule_from}
use Rattle.schedule_command.proofs.Readings.{ends_or_lacks}
use Rattle.schedule_command.proofs.playing.end_at_once.Goals as goal

pub returns-clause-text : goal.returns-clause-text
returns-clause-text g c = λ n. ends_or_lacks (g.O.Sink.state c.args.out.now) (g.O.Sink.state c.end.new.out) (schedule_from (first_table c.args.session.now c.args.hostile) n End) c.end.result (rw c.in-Ok.ensures at (c.end.ensures.text n))
