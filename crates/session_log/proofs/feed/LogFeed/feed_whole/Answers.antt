use Rattle.std.proofs.Common.{ap, subst, sym, ℕ, ◌+◌, ◌∙◌}
use Rattle.session_log.specs.Entries.{told_len}
use Rattle.session_log.specs.Finding.{digest_at, found_as}
use Rattle.session_log.specs.Fed.{Fed, IsFeedOf, fed_as}
use Rattle.session_log.proofs.Feeds.{step_same, whole_ended}
use Rattle.session_log.proofs.feed.LogFeed.feed_whole.Goals as goal

pub returns-clause-step : goal.returns-clause-step
returns-clause-step c = λ f is good mine.
    let r : Fed = record { owner = c.self.inside.owner; used = c.self.inside.used; at = c.self.inside.at; part = c.self.inside.part; fault = c.self.inside.fault } in
    let out = c.take_whole-read.new.out in
    let count : ℕ = told_len c.args.bytes.now + 35 in
    let digest = digest_at c.args.bytes.now in
    step_same _ c.answer.new.self _ (fed_as c.answer.result out) _ (c.answer.ensures.feed out count digest) (c.answer.ensures.fed out count digest)
    (whole_ended c.args.session.now c.args.owner f r c.take_whole-read.new.self c.args.bytes.now (c.told_len-count.result + 35) (found_as c.take_whole-read.result out count digest) (ap (λ (n : ℕ). n + 35) c.told_len-count.ensures.told) (subst (λ (x : Fed). IsFeedOf x f) (sym c.self.view_is) is) good
    (ap (λ (x : Fed). x.part.fresh) c.self.view_is ∙ c.requires.fresh) c.requires.whole c.take_whole-read.ensures.found c.take_whole-read.ensures.part)
