use Rattle.std.proofs.Common.{subst, sym, ℕ, ◌+◌}
use Rattle.session_log.specs.Finding.{found_as}
use Rattle.session_log.specs.Fed.{Fed, IsFeedOf, fed_as}
use Rattle.session_log.proofs.Feeds.{entry_ended, entry_going, full, not_full, step_same}
use Rattle.session_log.proofs.feed.LogFeed.feed_part.Goals as goal

pub returns-then-not-is_whole-clause-step : goal.returns-then-not-is_whole-clause-step
returns-then-not-is_whole-clause-step c = λ f is good mine.
    let r : Fed = record { owner = c.self.inside.owner; used = c.self.inside.used; at = c.self.inside.at; part = c.self.inside.part; fault = c.self.inside.fault } in
    entry_going c.args.session.now c.args.owner f r c.take-count.new.self c.args.bytes.now c.take-count.result (subst (λ (x : Fed). IsFeedOf x f) (sym c.self.view_is) is) good mine c.take-count.ensures.part
    (not_full _ c.is_whole.result c.is_whole.ensures c.if-not-is_whole.true c.take-count.ensures.digest)

pub returns-clause-step : goal.returns-clause-step
returns-clause-step c = λ f is good mine.
    let r : Fed = record { owner = c.self.inside.owner; used = c.self.inside.used; at = c.self.inside.at; part = c.self.inside.part; fault = c.self.inside.fault } in
    let out = c.close-read.new.out in
    let count : ℕ = c.take-count.new.self.text_len + 32 in
    let digest = c.take-count.new.self.digest in
    step_same _ c.answer.new.self _ (fed_as c.answer.result out) _ (c.answer.ensures.feed out count digest) (c.answer.ensures.fed out count digest)
    (entry_ended c.args.session.now c.args.owner f r c.take-count.new.self c.close-read.new.self c.args.bytes.now c.take-count.result (found_as c.close-read.result out count digest) (subst (λ (x : Fed). IsFeedOf x f) (sym c.self.view_is) is) good
    c.take-count.ensures.part (full _ c.is_whole.result c.is_whole.ensures c.if-not-is_whole.false) c.take-count.ensures.begun c.close-read.ensures.found c.close-read.ensures.part)
