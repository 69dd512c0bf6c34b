use Rattle.std.proofs.Common.{List, ℕ, ◌++◌, map, ap, ◌∙◌}
use Rattle.definitions.specs.declared.frames.TurnFrame.{TurnFrame}
use Rattle.text_lines.specs.Lines.{joined}
use Rattle.evidence.specs.declared.head.Head.{Head}
use Rattle.evidence.specs.Text.{end_line, exhibit_text, frame_line, head_lines}
use Rattle.evidence.proofs.Printed.{text_more}
use Rattle.evidence.proofs.printing.print_exhibit.Goals as goal

pub returns : goal.returns
unfolding exhibit_text
returns c =
    let x = c.args.exhibit.now in
    let o1 = c.put_head.new.out.items in
    let o2 = c.put_frames.new.out.items in
    let heads = λ (h : Head). joined (head_lines 1 h.player h.turn h.kind) in
    text_more o1 o2 c.put_line.new.out.items (head_lines 1 x.player x.turn x.kind) (map frame_line x.frames) end_line
    (c.in_ok-put_head.ensures ∙ ap (λ (o : List ℕ). o ++ heads c.head.result) c.new-out.ensures.items ∙ ap heads c.head.ensures)
    (c.in_ok-put_frames.ensures ∙ ap (λ (fs : List TurnFrame). o1 ++ joined (map frame_line fs)) c.as_slice.ensures)
    c.in_ok-put_line.ensures
