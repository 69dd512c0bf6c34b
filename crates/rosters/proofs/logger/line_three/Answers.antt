use Rattle.std.proofs.Common.{sym}
use Rattle.text_lines.proofs.FirstLine.{line_at-none, line_at-some}
use Rattle.text_fields.specs.declared.fault.TextFault.TheVariants.{At}
use Rattle.rosters.specs.LoggerText.{logger_said}
use Rattle.rosters.proofs.Loggers.{logger_said-empty}
use Rattle.rosters.proofs.logger.line_three.Goals as goal

pub returns-in-None : goal.returns-in-None
returns-in-None c = line_at-none (At 3) logger_said c.args.text.now c.take_line.result.0.now logger_said-empty c.take_line.ensures.line (sym c.in-None.ensures)

pub returns-in-Some : goal.returns-in-Some
returns-in-Some c =
    line_at-some (At 3) logger_said c.args.text.now c.take_line.result.0.now c.take_line.result.1.now c.in-Some.logger logger_said-empty c.take_line.ensures.line c.take_line.ensures.rest (sym c.in-Some.ensures)
