use Rattle.std.proofs.Common.{List, ℕ, ◌++◌, ap, ◌∙◌}
use Rattle.text_lines.specs.Lines.{joined}
use Rattle.roots.specs.Text.{root_lines}
use Rattle.roots.proofs.Printed.{text_of}
use Rattle.roots.proofs.printing.print_roots.Goals as goal

pub returns : goal.returns
returns c =
    let first = c.put_line.new.out.items in
    text_of c.new-out.result.items first c.put_roots.new.out.items c.put_line-2.new.out.items c.args.roots.now c.new-out.ensures.items c.in_ok-put_line.ensures
    (c.in_ok-put_roots.ensures ∙ ap (λ (rs : List (List ℕ)). first ++ joined (root_lines 0 rs)) c.as_slice.ensures)
    c.in_ok-put_line-2.ensures
