use Rattle.std.proofs.Common.{List, ℕ, ◌++◌, ap, ◌∙◌}
use Rattle.definitions.specs.declared.frames.TurnFrame.{TurnFrame}
use Rattle.text_lines.specs.Lines.{joined}
use Rattle.evidence.specs.declared.head.Head.{Head}
use Rattle.evidence.specs.Text.{end_line, head_lines}
use Rattle.sealed_text.specs.Text.{pair_lines, sealed_text}
use Rattle.sealed_text.proofs.Printed.{text_more}
use Rattle.sealed_text.proofs.printing.print_sealed.Goals as goal

pub returns : goal.returns
unfolding sealed_text
returns c =
    let x = c.args.sealed.now in
    let o1 = c.put_head.new.out.items in
    let o2 = c.put_pairs.new.out.items in
    let heads = λ (h : Head). joined (head_lines 2 h.player h.turn h.kind) in
    text_more o1 o2 c.put_line.new.out.items (head_lines 2 x.exhibit.player x.exhibit.turn x.exhibit.kind) (pair_lines x.exhibit.frames x.seals) end_line
    (c.in_ok-put_head.ensures ∙ ap (λ (o : List ℕ). o ++ heads c.head.result) c.new-out.ensures.items ∙ ap heads c.head.ensures)
    (c.in_ok-put_pairs.ensures ∙ ap (λ (fs : List TurnFrame). o1 ++ joined (pair_lines fs c.as_slice.result.now)) c.as_slice-frames.ensures
    ∙ ap (λ (ss : List (List ℕ)). o1 ++ joined (pair_lines x.exhibit.frames ss)) c.as_slice.ensures)
    c.in_ok-put_line.ensures
