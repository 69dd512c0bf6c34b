use Rattle.log_books.proofs.Owned.{are_owned}
use Rattle.live_logger.proofs.watch.Watch.auditor.Goals as goal

pub returns-clause-owned : goal.returns-clause-owned
returns-clause-owned c = are_owned c.args.self.now.view.setting.game c.args.self.now.view.streams
