use Rattle.std.proofs.Common.{◌≡◌, ◌<◌, ◌∙◌, sym, ap, arith}
use Rattle.definitions.specs.World.{Game, players_of}
use Rattle.schedule.specs.Stands.{is_caught}
use Rattle.schedule.proofs.Firsts.{find_later}
use Rattle.schedule.proofs.table.Table.first_caught.Goals as goal

pub loop-player-preserved : goal.loop-player-preserved
loop-player-preserved c =
    let t = c.args.self.now in
    let end : c.players-player-end.result ≡ players_of t.game = c.players-player-end.ensures.value ∙ ap (λ (g : Game). players_of g) c.session.ensures in
    let lt : c.loop-player.player < players_of t.game = omega (arith, c.loop-player-test.true, end) in
    sym (find_later (is_caught t.game t.logs) c.loop-player.player (players_of t.game) lt (sym c.is_caught.ensures ∙ c.if-is_caught.false)) ∙ c.loop-player.invariant
