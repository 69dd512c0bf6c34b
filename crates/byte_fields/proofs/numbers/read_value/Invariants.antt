use Rattle.std.proofs.Common.{◌≡◌, ◌≤◌, drop}
use Rattle.byte_fields.specs.Numbers.{value_within}
use Rattle.byte_fields.proofs.numbers.read_value.Given as goal

abbrev pub invariant-loop-digit : goal.invariant-loop-digit
invariant-loop-digit l = record {
  rest : value_within l.most l.value (drop l.digit-index l.digits) ≡ value_within l.most 0 l.digits;
  within : l.value ≤ l.most;
}
