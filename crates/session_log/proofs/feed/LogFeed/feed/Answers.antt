use Rattle.std.proofs.Common.{subst, sym}
use Rattle.session_log.specs.declared.feed.LogFedWhat.{LogFedWhat}
use Rattle.session_log.specs.Fed.{IsToldSo, what_as}
use Rattle.session_log.proofs.Feeds.{told_so}
use Rattle.session_log.proofs.feed.LogFeed.feed.Goals as goal

pub returns-clause-so : goal.returns-clause-so
returns-clause-so c =
    let step = c.feed_at-step in
    subst (λ (w : LogFedWhat). IsToldSo w step.result.used step.new.self) (sym c.told.ensures)
    (told_so (what_as step.result.what step.new.entry) step.result.used step.new.self c.fault.result c.fault.ensures.fault c.fault.ensures.why step.ensures.so)
