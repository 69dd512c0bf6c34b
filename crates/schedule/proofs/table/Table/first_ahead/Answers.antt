use Rattle.std.proofs.Common.{◌≡◌, ◌<◌, ◌∙◌, sym, ap, arith}
use Rattle.definitions.specs.World.{Game, players_of}
use Rattle.definitions.specs.Steps.{log_of}
use Rattle.definitions.specs.Held.{next_place}
use Rattle.peer_core.specs.declared.views.PlayerView.{PlayerView}
use Rattle.schedule.specs.Stands.{has_made, is_ahead_of}
use Rattle.schedule.proofs.Firsts.{find_later}
use Rattle.schedule.proofs.table.Table.first_ahead.Goals as goal

pub loop-player-preserved : goal.loop-player-preserved
loop-player-preserved c =
    let t = c.args.self.now in
    let end : c.players-player-end.result ≡ players_of t.game = c.players-player-end.ensures.value ∙ ap (λ (g : Game). players_of g) c.session.ensures in
    let lt : c.loop-player.player < players_of t.game = omega (arith, c.loop-player-test.true, end) in
    let made : is_ahead_of t.game t.logs c.args.peer.now.me c.args.peer.now.entries c.loop-player.player ≡ c.has_made.result
    = sym (c.has_made.ensures ∙ ap (has_made (log_of t.logs c.loop-player.player)) (ap (λ (v : PlayerView). v.next) c.player.ensures ∙ ap (λ (g : Game). next_place g c.args.peer.now.me c.args.peer.now.entries c.loop-player.player) c.requires)) in
    sym (find_later (is_ahead_of t.game t.logs c.args.peer.now.me c.args.peer.now.entries) c.loop-player.player (players_of t.game) lt (made ∙ c.if-has_made.false)) ∙ c.loop-player.invariant
