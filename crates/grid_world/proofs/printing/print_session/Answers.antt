use Rattle.std.proofs.Common.{List, ℕ, ◌++◌, map, ap, ◌∙◌}
use Rattle.definitions.specs.World.{Ground}
use Rattle.text_lines.specs.Lines.{joined}
use Rattle.grid_world.specs.Text.{head_lines, player_lines, wall_line, end_line, session_text}
use Rattle.grid_world.proofs.Printed.{all_more}
use Rattle.grid_world.proofs.printing.print_session.Goals as goal

pub returns : goal.returns
unfolding session_text
returns c =
    let g = c.args.session.now in
    all_more c.put_head.new.out.items c.put_players.new.out.items c.put_walls.new.out.items c.put_line.new.out.items (head_lines g) (player_lines g.rules g.seats 0) (map wall_line g.grid.walls) end_line
    (c.in_ok-put_head.ensures ∙ ap (λ (o : List ℕ). o ++ joined (head_lines g)) c.new-out.ensures.items)
    c.in_ok-put_players.ensures
    (c.in_ok-put_walls.ensures ∙ ap (λ (w : Ground). c.put_players.new.out.items ++ joined (map wall_line w.walls)) c.grid.ensures.value)
    c.in_ok-put_line.ensures
