use Rattle.log_files.proofs.Texts.{fault_if, sound_if, text_fed}
use Rattle.log_files.proofs.audits.take_text.Goals as goal

pub returns-in-Ok-clause-ok : goal.returns-in-Ok-clause-ok
returns-in-Ok-clause-ok c =
    sound_if c.args.session.now c.args.auditor.now c.take_bytes.new.self c.args.log c.args.text.now c.ending.result c.ended_so.result c.ended_so.ensures
    (text_fed c.args.session.now c.args.auditor.now c.take_bytes.new.self c.args.log c.new-feed.result c.take_bytes.new.feed c.args.text.now c.ending.result c.requires.session c.if-text-gt-LONGEST_LOG.false
    c.new-feed.ensures.feed c.in-Ok.ensures.all c.in-Ok.ensures.owner c.ending.ensures)

pub returns-in-Ok-clause-bad : goal.returns-in-Ok-clause-bad
returns-in-Ok-clause-bad c =
    fault_if c.args.session.now c.args.auditor.now c.take_bytes.new.self c.args.log c.args.text.now c.ending.result c.ended_so.result c.ended_so.ensures
    (text_fed c.args.session.now c.args.auditor.now c.take_bytes.new.self c.args.log c.new-feed.result c.take_bytes.new.feed c.args.text.now c.ending.result c.requires.session c.if-text-gt-LONGEST_LOG.false
    c.new-feed.ensures.feed c.in-Ok.ensures.all c.in-Ok.ensures.owner c.ending.ensures)
