use Rattle.auditor.proofs.Padded.{if_ok}
use Rattle.log_files.specs.Audited.{logs_of, owners_of}
use Rattle.log_files.proofs.Texts.{texts_are_logs}
use Rattle.log_files.proofs.audits.exhibit.Goals as goal

pub returns-clause-shows : goal.returns-clause-shows
returns-clause-shows c =
    let game = c.args.session.now in
    let texts = c.args.logs.now in
    if_ok c.exhibit.result (λ x so. so game (owners_of game texts) (logs_of game texts) c.in-Ok.ensures.ok.1 c.requires.found (texts_are_logs game texts)) c.exhibit.ensures.shows
