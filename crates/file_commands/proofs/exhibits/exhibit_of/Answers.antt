use Rattle.std.proofs.Common.{ap}
use Rattle.std.specs.Prelude.{Result, Err}
use Rattle.text_fields.specs.declared.fault.TextFault.{TextFault}
use Rattle.text_fields.specs.declared.fault.TextFault.TheVariants.{At, Memory}
use Rattle.text_fields.specs.Faults.{is_memory}
use Rattle.text_lines.specs.Answers.{Fails}
use Rattle.evidence.specs.declared.exhibit.Exhibit.{Exhibit}
use Rattle.run_frame.specs.Faults.{status_of_text}
use Rattle.run_frame.specs.declared.statuses.TextName.TheVariants.{Evidence}
use Rattle.run_frame.proofs.TextFaults.{text_calm}
use Rattle.file_commands.specs.Exhibits.{IsExhibitDue, exhibit_by}
use Rattle.file_commands.proofs.exhibits.exhibit_of.Goals as goal

-- the text's fault is due, unless memory was wanting
fault_due : (read : Result Exhibit TextFault) (fault : TextFault) → Fails is_memory fault read → IsExhibitDue (exhibit_by read) (Err (status_of_text Evidence fault))
fault_due read (At line) h = ap exhibit_by h
fault_due read Memory h = tt

pub returns-in-Err-clause-due : goal.returns-in-Err-clause-due
returns-in-Err-clause-due c = rw c.status_of_text.ensures (fault_due _ c.in-Err.fault c.in-Err.ensures.said)

pub returns-in-Err-clause-calm : goal.returns-in-Err-clause-calm
returns-in-Err-clause-calm c = rw c.status_of_text.ensures (text_calm Evidence c.in-Err.fault)
