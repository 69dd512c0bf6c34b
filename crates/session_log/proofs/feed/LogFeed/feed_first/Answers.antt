use Rattle.std.proofs.Common.{arith, get_or, refl}
use Rattle.session_log.specs.Fed.{fed_as}
use Rattle.session_log.specs.Feeding.{feed_of}
use Rattle.session_log.proofs.Feeds.{first_read}
use Rattle.session_log.proofs.feed.LogFeed.feed_first.Goals as goal

pub returns-else-owner-players-clause-step : goal.returns-else-owner-players-clause-step
returns-else-owner-players-clause-step c = λ f is good none.
    first_read c.args.session.now c.args.bytes.now f c.feed_entry-step.new.self (fed_as c.feed_entry-step.result c.feed_entry-step.new.entry) (omega arith) (omega arith)
    (c.feed_entry-step.ensures.step (feed_of f (get_or c.args.bytes.now 0 0)) (c.begin.ensures.feed f is good none) refl refl)
