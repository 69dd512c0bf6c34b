use Rattle.std.proofs.Common.{◌≡◌, ◌+◌, drop}
use Rattle.byte_fields.specs.Numbers.{digits_len}
use Rattle.byte_fields.proofs.numbers.digits_len.Given as goal

abbrev pub invariant-loop-i : goal.invariant-loop-i
invariant-loop-i l = digits_len l.text ≡ l.i + digits_len (drop l.i l.text)
