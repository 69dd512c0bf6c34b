use Rattle.std.proofs.Common.{ap, arith}
use Rattle.definitions.specs.World.{players_of}
use Rattle.make_command.proofs.Taken.{all_reported, nothing_taken}
use Rattle.make_command.proofs.auditing.audit.Goals as goal

pub loop-player-init : goal.loop-player-init
loop-player-init c =
    nothing_taken c.args.table.now.game c.args.table.now.logs c.in_ok-auditor.auditor (rw (c.session-2.ensures) at c.in_ok-auditor.ensures.stands) c.in_ok-auditor.ensures.counts c.in_ok-auditor.ensures.owners

pub returns : goal.returns
returns c =
    let test = c.loop-player-test.false in
    let end = c.loop-player.auto.player-end in
    let many = c.players-player-end.ensures.value in
    let same = ap players_of c.session-3.ensures in
    all_reported c.args.table.now.game c.session.result.now c.args.table.now.logs c.loop-player.player c.loop-player.auditor c.report.result c.facts-2.ensures c.session.ensures c.facts.ensures.honest
    (omega (arith, test, many, same)) (omega (arith, end, many, same)) c.loop-player.invariant c.report.ensures
