use Rattle.accuser.proofs.Several.{accused}
use Rattle.accuser.proofs.accusing.accuse.Goals as goal

pub returns-clause-report : goal.returns-clause-report
returns-clause-report c = accused c.args.session.now c.args.roots.now c.args.files.now c.in_ok-taker.taker c.take_files.new.taker c.in_ok-of.field-0 c.in_ok-taker.ensures c.in_ok-take_files.ensures.ok c.in_ok-of.ensures
