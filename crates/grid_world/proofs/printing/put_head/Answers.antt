use Rattle.std.proofs.Common.{[], ◌∷◌, ap, ◌∙◌}
use Rattle.std.specs.Prelude.{codes}
use Rattle.definitions.specs.World as world
use Rattle.definitions.specs.World.{Ground, players_of}
use Rattle.text_lines.specs.Lines.{line_of}
use Rattle.grid_world.specs.Text.{ahead_lines}
use Rattle.grid_world.proofs.Printed.{head_more, line_one, line_two, line_three}
use Rattle.grid_world.proofs.printing.put_head.Goals as goal

pub returns : goal.returns
returns c =
    let g = c.args.session.now in
    let r = g.rules in
    let grid = c.grid-grid.ensures.value in
    let rules = c.rules-rules.ensures.value in
    let o1 = c.args.out.now.items in
    let o2 = c.put_line.new.out.items in
    let o3 = c.put_line-2.new.out.items in
    let o4 = c.put_line-3.new.out.items in
    let o5 = c.put_line-4.new.out.items in
    let o6 = c.put_line-5.new.out.items in
    let o7 = c.put_ahead.new.out.items in
    let o8 = c.put_line-6.new.out.items in
    head_more o1 o2 o3 o4 o5 o6 o7 o8
    (line_of (codes "playout") (g.version ∷ []))
    (line_of (codes "grid") (g.grid.width ∷ g.grid.height ∷ []))
    (line_of (codes "rules") (r.speed ∷ r.reach ∷ r.blast ∷ []))
    (line_of (codes "charge") (r.start_charge ∷ r.cap ∷ r.cost ∷ []))
    (line_of (codes "turns") (g.turns ∷ []))
    (line_of (codes "players") (players_of g ∷ []))
    (ahead_lines g)
    (line_one o1 o2 (codes "playout") c.from.result g.version c.in_ok-put_line.ensures (c.from.ensures ∙ c.version.ensures.value))
    (line_two o2 o3 (codes "grid") c.from-2.result c.from-3.result g.grid.width g.grid.height c.in_ok-put_line-2.ensures
    (c.from-2.ensures ∙ c.width.ensures.value ∙ ap (λ (w : Ground). w.width) grid)
    (c.from-3.ensures ∙ c.height.ensures.value ∙ ap (λ (w : Ground). w.height) grid))
    (line_three o3 o4 (codes "rules") c.from-4.result c.from-5.result c.from-6.result r.speed r.reach r.blast c.in_ok-put_line-3.ensures
    (c.from-4.ensures ∙ ap (λ (w : world.Rules). w.speed) rules)
    (c.from-5.ensures ∙ ap (λ (w : world.Rules). w.reach) rules)
    (c.from-6.ensures ∙ ap (λ (w : world.Rules). w.blast) rules))
    (line_three o4 o5 (codes "charge") c.from-7.result c.from-8.result c.from-9.result r.start_charge r.cap r.cost c.in_ok-put_line-4.ensures
    (c.from-7.ensures ∙ ap (λ (w : world.Rules). w.start_charge) rules)
    (c.from-8.ensures ∙ ap (λ (w : world.Rules). w.cap) rules)
    (c.from-9.ensures ∙ ap (λ (w : world.Rules). w.cost) rules))
    (line_one o5 o6 (codes "turns") c.turns.result g.turns c.in_ok-put_line-5.ensures c.turns.ensures.value)
    c.in_ok-put_ahead.ensures
    (line_one o7 o8 (codes "players") c.from-10.result (players_of g) c.in_ok-put_line-6.ensures (c.from-10.ensures ∙ c.players.ensures.value))
