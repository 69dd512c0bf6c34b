use Rattle.std.proofs.Common.{ap, arith, below_more, sym, ◌∙◌}
use Rattle.definitions.specs.World.{players_of}
use Rattle.agreed_turns.specs.States.{AgreedState}
use Rattle.agreed_turns.proofs.Counted.{all_whole, not_whole}
use Rattle.agreed_turns.proofs.agreed.AgreedTurns.is_whole.Goals as goal

pub loop-player-preserved : goal.loop-player-preserved
loop-player-preserved c logs is =
    below_more _ _ (c.loop-player.invariant logs is)
    (sym (c.agreed.ensures logs is) ∙ c.if-agreed-turns.false ∙ c.turns.ensures.value ∙ ap (λ (a : AgreedState). a.game.turns) c.self.view_is)

pub returns-then-agreed-turns : goal.returns-then-agreed-turns
returns-then-agreed-turns c logs is =
    let many = ap (λ (a : AgreedState). players_of a.game) c.self.view_is in
    let players = c.players-player-end.ensures.value in
    let lt = c.loop-player-test.true in
    not_whole c.args.self.now.game logs c.loop-player.player (omega arith)
    (λ e. c.if-agreed-turns.true (c.agreed.ensures logs is ∙ e ∙ sym (c.turns.ensures.value ∙ ap (λ (a : AgreedState). a.game.turns) c.self.view_is)))

pub returns : goal.returns
returns c logs is =
    let many = ap (λ (a : AgreedState). players_of a.game) c.self.view_is in
    let players = c.players-player-end.ensures.value in
    let ge = c.loop-player-test.false in
    let le = c.loop-player.auto.player-end in
    all_whole c.args.self.now.game logs c.loop-player.player (omega arith) (c.loop-player.invariant logs is)
