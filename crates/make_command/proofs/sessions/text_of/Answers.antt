use Rattle.std.proofs.Common.{List, ℕ, ◌++◌, [], map, ap, ◌∙◌}
use Rattle.text_lines.specs.Lines.{joined}
use Rattle.grid_world.specs.Text.{end_line, head_lines, player_lines, session_text, wall_line}
use Rattle.grid_world.proofs.Printed.{all_more}
use Rattle.make_command.specs.Making.{made_rules, plain_game, seat_at}
use Rattle.make_command.proofs.sessions.text_of.Goals as goal

pub returns : goal.returns
unfolding session_text plain_game
returns c =
    let walls = c.args.walls.now in
    let starts = c.args.starts.now in
    all_more c.put_head.new.out.items c.put_starts.new.out.items c.put_walls.new.out.items c.put_line.new.out.items (head_lines (plain_game [] starts)) (player_lines made_rules (map seat_at starts) 0)
    (map wall_line walls) end_line
    (c.in_ok-put_head.ensures ∙ ap (λ (o : List ℕ). o ++ joined (head_lines (plain_game [] starts))) c.new-out.ensures.items)
    c.in_ok-put_starts.ensures
    c.in_ok-put_walls.ensures
    c.in_ok-put_line.ensures
