use Rattle.std.proofs.Common.{Bool, ap, sym, ◌∙◌}
use Rattle.std.specs.Prelude.{◌||◌, ◌&&◌, ◌==◌}
use Rattle.move_rules.specs.Windows.{is_set}
use Rattle.move_rules.proofs.WindowBits.{set_more}
use Rattle.move_rules.proofs.window.with_bit.Goals as goal

pub returns-then-on : goal.returns-then-on
returns-then-on c = λ i.
    set_more c.args.word c.args.column i c.requires ∙ ap (λ (b : Bool). is_set c.args.word i || (b && (i == c.args.column))) (sym c.if-on.true)
