-- TextFaults: a text that is refused for one of its lines, or for want of memory.
use Rattle.std.proofs.Common.{◌≡◌, false, refl, ap}
use Rattle.std.specs.Prelude.{Result, Err}
use Rattle.text_fields.specs.declared.fault.TextFault.{TextFault}
use Rattle.text_fields.specs.declared.fault.TextFault.TheVariants.{At, Memory}
use Rattle.text_fields.specs.Faults.{is_memory}
use Rattle.text_lines.specs.Answers.{Fails}
use Rattle.run_frame.specs.Faults.{read_by, status_of_text}
use Rattle.run_frame.specs.Frame.{is_input_fault}
use Rattle.run_frame.specs.Opening.{IsDueFor}
use Rattle.run_frame.specs.declared.statuses.TextName.{TextName}

-- the status tells of no fault of the shelf
pub text_calm : (text : TextName) (fault : TextFault) → is_input_fault (status_of_text text fault) ≡ false
text_calm text (At line) = refl
text_calm text Memory = refl

-- and it is due, unless memory was wanting
pub text_refused : {T : Type 0} (text : TextName) (read : Result T TextFault) (fault : TextFault) → Fails is_memory fault read → IsDueFor (read_by text read) (Err (status_of_text text fault))
text_refused text read (At line) h = ap (read_by text) h
text_refused text read Memory h = tt
