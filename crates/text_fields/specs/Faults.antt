-- Faults: which fault of a text that is read line by line is want of memory.
use Rattle.std.specs.Prelude.{Bool, true, false}
use Rattle.text_fields.specs.declared.fault.TextFault.{TextFault}
use Rattle.text_fields.specs.declared.fault.TextFault.TheVariants.{At, Memory}

-- the fault is want of memory
abbrev pub is_memory : TextFault → Bool
is_memory Memory = true
is_memory (At line) = false
