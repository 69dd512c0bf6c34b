use Rattle.std.proofs.Common.{List, ap, false, length, sym, ◌∙◌, ◌≡◌}
use Rattle.std.specs.Prelude.{◌==◌}
use Rattle.definitions.specs.declared.logs.Entry.{Entry}
use Rattle.line_io.proofs.Writing.{puts_behind, puts_first}
use Rattle.drive_command.proofs.Digits.{field_some}
use Rattle.drive_command.proofs.logging.put_field.Goals as goal

pub returns : goal.returns
returns g c =
    let some : (length c.args.peer.now.entries == 0) ≡ false = ap (λ (es : List Entry). length es == 0) (sym c.entries-entries.ensures) ∙ sym c.is_empty.ensures ∙ c.if-is_empty.false in
    rw (field_some _ _ _ some)
    (puts_behind _ _ _ _ _ c.put_digits.result c.in_ok-put.ensures (rw (c.new-writer.ensures, c.session.ensures, c.me.ensures, c.entries-entries.ensures) at c.put_digits.ensures))

pub returns-in_err-put : goal.returns-in_err-put
returns-in_err-put g c =
    let some : (length c.args.peer.now.entries == 0) ≡ false = ap (λ (es : List Entry). length es == 0) (sym c.entries-entries.ensures) ∙ sym c.is_empty.ensures ∙ c.if-is_empty.false in
    rw (field_some _ _ _ some) (puts_first _ _ _ _ c.from_residual.result c.from_residual.ensures.0 c.in_err-put.ensures)
