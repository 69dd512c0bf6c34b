use Rattle.log_files.specs.Audited.{logs_of, owners_of}
use Rattle.log_files.proofs.Texts.{audited}
use Rattle.log_files.proofs.audits.audit.Goals as goal

pub returns-in-Ok-clause-report : goal.returns-in-Ok-clause-report
returns-in-Ok-clause-report c =
    let game = c.args.session.now in
    let texts = c.args.logs.now in
    let ok = c.in_ok-auditor.ensures.ok in
    audited game texts c.in-Ok.report ok.0 (c.in-Ok.ensures game (owners_of game texts) (logs_of game texts) ok.1)
