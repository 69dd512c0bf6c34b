use Rattle.session_log.proofs.Texts.{chose_of-long}
use Rattle.session_log.proofs.entries.chose_of.Goals as goal

pub returns-then-body-gt60 : goal.returns-then-body-gt60
returns-then-body-gt60 c = chose_of-long c.args.body.now c.if-body-gt60.true
