use Rattle.std.proofs.Common.{List, ap, sym, ◌∙◌}
use Rattle.definitions.specs.declared.world.Cell.{Cell}
use Rattle.make_command.proofs.Drawn.{walls_begun, walls_next}
use Rattle.make_command.proofs.sessions.draw_walls.Goals as goal

pub loop-place-init : goal.loop-place-init
loop-place-init c = ap (λ (w : List Cell). (w, c.args.chance.now)) c.new-walls.ensures.items ∙ sym (walls_begun c.args.chance.now)

pub loop-place-preserved : goal.loop-place-preserved
loop-place-preserved c =
    let l = c.loop-place in
    walls_next l.place c.args.chance.now l.walls.items l.chance c.draw-drawn.result c.draw-drawn.new.chance c.put_drawn.new.walls.items l.invariant c.draw-drawn.ensures.value c.in_ok-put_drawn.ensures
