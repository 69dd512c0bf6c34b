use Rattle.auditor.proofs.Padded.{all, if_ok, report_stands}
use Rattle.auditor.proofs.auditor.Auditor.report.Goals as goal

pub returns : goal.returns
returns c = if_ok c.report_all.result (λ r is game owners logs stands. report_stands game owners logs c.args.self.now stands r (is game (all game owners logs c.args.self.now stands) stands.audit)) c.report_all.ensures
