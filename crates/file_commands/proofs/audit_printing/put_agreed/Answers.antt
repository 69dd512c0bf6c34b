use Rattle.std.proofs.Common.{arith, ap, ◌+◌, ◌-◌, ◌<◌, ◌≡◌, ◌∙◌}
use Rattle.std.proofs.lemmas.Grind.{common_steps}
use Rattle.definitions.specs.World.{players_of}
use Rattle.line_io.proofs.Writing.{puts_cut, underway_cut, underway_end, underway_more}
use Rattle.auditor.specs.Reports.{agreed_by}
use Rattle.file_commands.specs.AuditLines.{agreed_lines}
use Rattle.file_commands.proofs.Players.{agreed_more, agreed_none}
use Rattle.file_commands.proofs.audit_printing.put_agreed.Goals as goal

pub returns-in_err-put : goal.returns-in_err-put
returns-in_err-put g c =
    let r = c.args.report.now in
    let q = c.players.player in
    let n = players_of c.args.session.now in
    let below : q < n = grind (arith, common_steps) in
    puts_cut _ _ _ c.from_residual.result c.from_residual.ensures.0
    (underway_cut _ _ _ _ _ c.as_slice.result.now (agreed_lines (agreed_by r) (q + 1) (n - (q + 1))) c.players.invariant (grind (arith, common_steps, agreed_more (agreed_by r) q n below)) c.in_err-put.ensures)

pub players-preserved : goal.players-preserved
players-preserved g c =
    let r = c.args.report.now in
    let q = c.players.player in
    let n = players_of c.args.session.now in
    let below : q < n = grind (arith, common_steps) in
    underway_more _ _ _ _ _ c.as_slice.result.now (agreed_lines (agreed_by r) (q + 1) (n - (q + 1))) c.players.invariant (grind (arith, common_steps, agreed_more (agreed_by r) q n below)) c.in_ok-put.ensures

pub returns : goal.returns
returns g c =
    let r = c.args.report.now in
    let none : players_of c.args.session.now - c.players.player ≡ 0 = grind (arith, common_steps) in
    underway_end _ _ _ _ c.players.invariant (ap (agreed_lines (agreed_by r) c.players.player) none ∙ agreed_none (agreed_by r) c.players.player)
