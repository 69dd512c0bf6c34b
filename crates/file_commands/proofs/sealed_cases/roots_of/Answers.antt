use Rattle.run_frame.specs.declared.statuses.TextName.TheVariants.{Roots}
use Rattle.run_frame.proofs.TextFaults.{text_calm, text_refused}
use Rattle.file_commands.proofs.sealed_cases.roots_of.Goals as goal

pub returns-in-Err-clause-due : goal.returns-in-Err-clause-due
returns-in-Err-clause-due c = rw c.status_of_text.ensures (text_refused Roots _ c.in-Err.fault c.in-Err.ensures.said)

pub returns-in-Err-clause-calm : goal.returns-in-Err-clause-calm
returns-in-Err-clause-calm c = rw c.status_of_text.ensures (text_calm Roots c.in-Err.fault)
