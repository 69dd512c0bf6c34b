use Rattle.run_frame.proofs.Frames.{plays_ends, plays_none, plays_on}
use Rattle.drive_command.specs.Outcomes.{driven_from}
use Rattle.drive_command.proofs.playing.answer_lines.Goals as goal

pub lines-init : goal.lines-init
lines-init g c = plays_none _ _ _ _

pub lines-preserved : goal.lines-preserved
lines-preserved g c =
    plays_on _ _ _ _ _ _ (driven_from c.args.driver.now) (driven_from c.lines.driver) (driven_from c.answer_line.new.driver) _ _ _ c.lines.invariant c.in-Ok.ensures.text

pub returns-in-Err : goal.returns-in-Err
returns-in-Err g c = plays_ends _ _ _ _ _ _ (driven_from c.args.driver.now) (driven_from c.lines.driver) _ _ c.in-Err.status c.lines.invariant c.in-Err.ensures.text
