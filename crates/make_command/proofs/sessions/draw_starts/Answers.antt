use Rattle.std.proofs.Common.{List, [], ◌∷◌, ◌++◌, ap, sym, ◌∙◌}
use Rattle.definitions.specs.declared.world.Cell.{Cell}
use Rattle.pilots.specs.Draws.{draw}
use Rattle.make_command.specs.Making.{cell_at}
use Rattle.make_command.proofs.Drawn.{starts_begun, starts_next}
use Rattle.make_command.proofs.sessions.draw_starts.Goals as goal

pub loop-player-init : goal.loop-player-init
loop-player-init c = ap (λ (w : List Cell). (w, c.args.chance.now)) c.new-starts.ensures.items ∙ sym (starts_begun c.args.walls.now c.args.chance.now)

pub loop-player-preserved : goal.loop-player-preserved
loop-player-preserved c =
    let l = c.loop-player in
    starts_next c.args.walls.now l.player c.args.chance.now l.starts.items l.chance c.draw-first.result c.draw-first.new.chance c.push.new.self.items l.invariant
    (c.draw-first.ensures.value ∙ ap (λ n. draw n l.chance) c.into.ensures)
    (c.in_ok-push.ensures.items ∙ ap (λ (s : Cell). l.starts.items ++ (s ∷ [])) (c.cell_at.ensures ∙ ap cell_at c.open_place.ensures))
