use Rattle.std.proofs.Common.{Bool, ap, drop, sym, ◌∙◌}
use Rattle.std.specs.Prelude.{Ok, Result}
use Rattle.session_log.specs.declared.faults.LogFault.{LogFault}
use Rattle.session_log.specs.Feeding.{FeedAnswer}
use Rattle.session_log.specs.Fed.{what_as}
use Rattle.auditor.proofs.Fed.{fed_sent}
use Rattle.auditor.proofs.batches.read_next.Goals as goal

pub returns-then-came-clause-sent : goal.returns-then-came-clause-sent
returns-then-came-clause-sent c =
    let stands = c.requires.stands in
    let step = c.feed_at-step.ensures.step stands.0 stands.1 in
    let entry = c.feed_at-step.new.entry in
    fed_sent c.args.session.now stands.0 (drop c.args.at c.args.piece.now) entry (ap (λ (x : FeedAnswer). x.what) (sym step.answer) ∙ ap (λ (w : Result Bool LogFault). what_as w entry) (c.in-Ok.is ∙ ap (λ (b : Bool). Ok b) c.if-came.true))
