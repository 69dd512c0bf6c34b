use Rattle.std.proofs.Common.{List, ℕ, ◌++◌, ap, ◌∙◌}
use Rattle.text_lines.proofs.Printed.{field_more}
use Rattle.text_lines.proofs.printing.put_line.Goals as goal

pub loop-number-preserved : goal.loop-number-preserved
loop-number-preserved c =
    field_more c.loop-number.out.items c.extend_from_slice-in-loop-number.new.self.items _ c.args.numbers.now c.loop-number.number-index c.loop-number-test.true
    (c.in_ok-extend_from_slice-2.ensures.items ∙ ap (λ (t : List ℕ). c.loop-number.out.items ++ t) (c.as_bytes.ensures.value ∙ c.in_ok-field.ensures.ok)) c.loop-number.invariant
