-- Faults: only want of memory is want of memory.
use Rattle.std.proofs.Common.{◌≡◌, true, refl}
use Rattle.std.proofs.lemmas.Bool.{false≢true}
use Rattle.text_fields.specs.declared.fault.TextFault.{TextFault}
use Rattle.text_fields.specs.declared.fault.TextFault.TheVariants.{At, Memory}
use Rattle.text_fields.specs.Faults.{is_memory}

pub only_memory : (e : TextFault) → is_memory e ≡ true → e ≡ Memory
only_memory Memory h = refl
only_memory (At line) h = absurd (false≢true h)
