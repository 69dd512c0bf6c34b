use Rattle.std.proofs.Common.{arith, ap, ◌+◌, ◌-◌, ◌<◌, ◌≡◌, ◌∙◌}
use Rattle.std.proofs.lemmas.Grind.{common_steps}
use Rattle.definitions.specs.World.{players_of}
use Rattle.line_io.proofs.Writing.{puts_cut, underway_cut, underway_end, underway_more}
use Rattle.auditor.specs.Reports.{world_by}
use Rattle.file_commands.specs.AuditLines.{told_line, world_lines}
use Rattle.file_commands.proofs.Players.{world_more, world_lines_none}
use Rattle.file_commands.proofs.audit_printing.put_players.Goals as goal

pub returns-in_err-put_player : goal.returns-in_err-put_player
returns-in_err-put_player g c =
    let r = c.args.report.now in
    let q = c.players.player in
    let n = players_of c.args.session.now in
    let below : q < n = grind (arith, common_steps) in
    puts_cut _ _ _ c.from_residual.result c.from_residual.ensures.0
    (underway_cut _ _ _ _ _ (told_line q (world_by r q)) (world_lines (world_by r) (q + 1) (n - (q + 1))) c.players.invariant (world_more (world_by r) q n below) c.in_err-put_player.ensures)

pub players-preserved : goal.players-preserved
players-preserved g c =
    let r = c.args.report.now in
    let q = c.players.player in
    let n = players_of c.args.session.now in
    let below : q < n = grind (arith, common_steps) in
    underway_more _ _ _ _ _ (told_line q (world_by r q)) (world_lines (world_by r) (q + 1) (n - (q + 1))) c.players.invariant (world_more (world_by r) q n below) c.in_ok-put_player.ensures

pub returns : goal.returns
returns g c =
    let r = c.args.report.now in
    let none : players_of c.args.session.now - c.players.player ≡ 0 = grind (arith, common_steps) in
    underway_end _ _ _ _ c.players.invariant (ap (world_lines (world_by r) c.players.player) none ∙ world_lines_none (world_by r) c.players.player)
