use Rattle.std.proofs.Common.{refl}
use Rattle.line_io.proofs.Drawing.{drew_none}
use Rattle.schedule_command.specs.Schedule.{first_table, schedule_from}
use Rattle.schedule_command.proofs.Readings.{or_lacks}
use Rattle.schedule_command.proofs.playing.play_on.Goals as goal

pub returns-in_default-clause-text : goal.returns-in_default-clause-text
returns-in_default-clause-text g c = (drew_none _, refl)

pub returns-clause-text : goal.returns-clause-text
returns-clause-text g c = or_lacks _ _ _ _ (schedule_from (first_table c.args.session.now c.args.hostile) c.args.lines) _ c.answer_lines.result (rw c.in-Ok.ensures at c.answer_lines.ensures.text)
