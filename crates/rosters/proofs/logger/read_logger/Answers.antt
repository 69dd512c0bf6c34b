use Rattle.std.proofs.Common.{Err, Ok, ap, sym, ◌∙◌}
use Rattle.text_lines.proofs.Steps.{ok_is}
use Rattle.text_fields.specs.declared.fault.TextFault.{TextFault}
use Rattle.rosters.proofs.Loggers.{logger_again, logger_found, never_memory}
use Rattle.rosters.proofs.logger.read_logger.Goals as goal

pub returns-in-Ok-clause-found : goal.returns-in-Ok-clause-found
returns-in-Ok-clause-found c = logger_found c.args.text.now c.in-Ok.logger c.in-Ok.ensures

pub returns-in-Ok-clause-only : goal.returns-in-Ok-clause-only
returns-in-Ok-clause-only c l from = ap Ok (ok_is {E = TextFault} c.in-Ok.logger l (sym c.in-Ok.ensures ∙ logger_again c.args.text.now l from))

pub returns-in-Err-At-clause-only : goal.returns-in-Err-At-clause-only
returns-in-Err-At-clause-only c l from = absurd (let never = sym c.in-Err-At.ensures ∙ logger_again c.args.text.now l from in cc)

pub returns-in-Err-Memory-clause-only : goal.returns-in-Err-Memory-clause-only
returns-in-Err-Memory-clause-only c l from = absurd (never_memory c.args.text.now (c.in-Err-Memory.ensures ∙ ap Err c.in-Err-Memory.field-0-is))

pub returns-in-Err-Memory-clause-exact : goal.returns-in-Err-Memory-clause-exact
returns-in-Err-Memory-clause-exact c = absurd (never_memory c.args.text.now (c.in-Err-Memory.ensures ∙ ap Err c.in-Err-Memory.field-0-is))
