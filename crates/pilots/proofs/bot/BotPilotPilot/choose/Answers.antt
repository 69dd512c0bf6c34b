use Rattle.std.proofs.Common.{◌≡◌, ap, subst, ◌∙◌}
use Rattle.definitions.specs.World.{Game, Ground}
use Rattle.grid_world.specs.Sessions.{IsSession}
use Rattle.pilots.specs.Choices.{Bot, strike_of, target_of}
use Rattle.pilots.proofs.Legal.{bot_is_legal}
use Rattle.pilots.proofs.bot.BotPilotPilot.choose.Goals as goal

pub returns-clause-legal : goal.returns-clause-legal
returns-clause-legal c = λ q known opens.
    let same : c.self.inside.session.now ≡ c.args.self.now.game = ap (λ (b : Bot). b.game) c.self.view_is in
    bot_is_legal c.args.self.now.game q c.args.track.now c.draw-drawn.result c.draw-drawn.new.chance c.target-to.result c.strike-strike.result (subst IsSession same c.facts.ensures) known
    c.draw-drawn.ensures.below opens
    (c.target-to.ensures ∙ ap (λ (g : Ground). target_of g c.args.track.now.at c.draw-drawn.result) (c.grid.ensures.value ∙ ap (λ (w : Game). w.grid) same))
    (c.strike-strike.ensures.value ∙ ap (λ (w : Game). (strike_of w c.args.track.now.charge c.target-to.result c.draw-drawn.new.chance).0) same)
