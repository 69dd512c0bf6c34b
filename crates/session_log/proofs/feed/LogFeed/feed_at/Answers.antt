use Rattle.std.proofs.Common.{List, ap, drop, subst, sym, ℕ, ◌∙◌}
use Rattle.std.proofs.lemmas.List.{take_rest}
use Rattle.session_log.specs.Fed.{Fed, IsFeedOf, fed_as}
use Rattle.session_log.specs.Feeding.{fed_step}
use Rattle.session_log.proofs.Pieces.{given_first}
use Rattle.session_log.proofs.feed.LogFeed.feed_at.Goals as goal

pub returns-clause-rest : goal.returns-clause-rest
returns-clause-rest c = λ f is.
    let r : Fed = record { owner = c.self.inside.owner; used = c.self.inside.used; at = c.self.inside.at; part = c.self.inside.part; fault = c.self.inside.fault } in
    given_first c.args.session.now f r (drop c.args.at c.args.piece.now) (fed_as c.feed_on.result c.feed_on.new.entry) (subst (λ (x : Fed). IsFeedOf x f) (sym c.self.view_is) is) c.self.invariant.0
    ((c.feed_on.ensures.step f is).answer ∙ ap (λ (xs : List ℕ). (fed_step c.args.session.now f xs).fed) (take_rest c.args.piece.now c.args.at))
