use Rattle.std.proofs.Common.{refl, ap}
use Rattle.line_io.specs.Files.{content}
use Rattle.run_frame.proofs.Alone.{refused_works, told_so}
use Rattle.file_commands.specs.Upgrade.{upgrade_answer}
use Rattle.file_commands.specs.UpgradeLaw.{upgrade_law}
use Rattle.file_commands.proofs.UpgradeHolds.{upgrade_holds}
use Rattle.file_commands.proofs.Upgraded.{session_reads, unread_refused}
use Rattle.file_commands.proofs.commands.run_upgrade.Goals as goal

pub returns-in-Ok : goal.returns-in-Ok
returns-in-Ok g c = λ rest.
    let name = c.args.session.now in
    let o = c.in-Ok.ensures in
    told_so (upgrade_law name) (upgrade_holds name) refl rest _ _ _ _ (session_reads _ _ name _ o) _ _ c.upgrade.result
    (λ contents input given. ap upgrade_answer (o.due (content contents 0) (given 0))) o.fetched.counted c.upgrade.ensures tt

pub returns-in-Err : goal.returns-in-Err
returns-in-Err g c = λ rest.
    let name = c.args.session.now in
    let o = c.in-Err.ensures in
    refused_works (upgrade_law name) (upgrade_holds name) refl rest _ _ _ _ (session_reads _ _ name _ o) c.in-Err.status
    (λ contents input given. unread_refused _ c.in-Err.status (o.due (content contents 0) (given 0))) o.fetched.counted (λ due d. tt)
