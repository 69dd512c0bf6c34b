use Rattle.std.proofs.Common.{arith, ◌+◌}
use Rattle.run_frame.proofs.Frames.{plays_ends, plays_none, plays_on}
use Rattle.schedule_command.specs.Schedule.{schedule_from}
use Rattle.schedule_command.proofs.playing.answer_lines.Goals as goal

pub lines-init : goal.lines-init
lines-init g c = record { text = plays_none _ _ _ _; few = c.requires }

pub lines-preserved : goal.lines-preserved
lines-preserved g c = record {
  text = plays_on _ _ _ _ _ _ (schedule_from c.args.table.now c.args.lines) (schedule_from c.lines.table c.lines.count) (schedule_from c.answer_line.new.table (c.lines.count + 1)) _ _ _ c.lines.invariant.text c.in-Ok.ensures.text;
  few = omega (arith, c.in-Ok.ensures.few);
}

pub returns-in-Err-clause-text : goal.returns-in-Err-clause-text
returns-in-Err-clause-text g c = plays_ends _ _ _ _ _ _ (schedule_from c.args.table.now c.args.lines) (schedule_from c.lines.table c.lines.count) _ _ c.in-Err.status c.lines.invariant.text c.in-Err.ensures.text
