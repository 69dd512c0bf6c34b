use Rattle.std.proofs.Common.{arith, ap, ◌+◌, ◌-◌, ◌<◌, ◌≡◌, ◌∙◌}
use Rattle.std.proofs.lemmas.Grind.{common_steps}
use Rattle.definitions.specs.World.{players_of}
use Rattle.line_io.proofs.Writing.{puts_cut, underway_cut, underway_end, underway_more}
use Rattle.report_lines.specs.Report.{players_text, viewed_text}
use Rattle.report_lines.proofs.Players.{players_more, players_none}
use Rattle.report_lines.proofs.standing.put_players.Goals as goal

pub returns-in_err-put_player : goal.returns-in_err-put_player
returns-in_err-put_player g c =
    let peer = c.args.peer.now in
    let q = c.players.player in
    let n = players_of peer.game in
    let below : q < n = grind (arith, common_steps) in
    let rest = players_text peer.game peer.me peer.entries (q + 1) (n - (q + 1)) in
    puts_cut _ _ _ c.from_residual.result c.from_residual.ensures.0
    (underway_cut _ _ _ _ _ (viewed_text peer.game peer.me peer.entries q) rest c.players.invariant (players_more peer.game peer.me peer.entries q n below) c.in_err-put_player.ensures)

pub players-preserved : goal.players-preserved
players-preserved g c =
    let peer = c.args.peer.now in
    let q = c.players.player in
    let n = players_of peer.game in
    let below : q < n = grind (arith, common_steps) in
    let rest = players_text peer.game peer.me peer.entries (q + 1) (n - (q + 1)) in
    underway_more _ _ _ _ _ (viewed_text peer.game peer.me peer.entries q) rest c.players.invariant (players_more peer.game peer.me peer.entries q n below) c.in_ok-put_player.ensures

pub returns : goal.returns
returns g c =
    let peer = c.args.peer.now in
    let none : players_of peer.game - c.players.player ≡ 0 = grind (arith, common_steps) in
    underway_end _ _ _ _ c.players.invariant (ap (players_text peer.game peer.me peer.entries c.players.player) none ∙ players_none peer.game peer.me peer.entries c.players.player)
