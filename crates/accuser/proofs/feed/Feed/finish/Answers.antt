use Rattle.std.proofs.Common.{◌≡◌, ◌+◌, List, None, Some, ℕ, true, ap, subst, sym, ◌∙◌}
use Rattle.accuser.specs.Feeds.{Feeding, so_far}
use Rattle.accuser.specs.Taking.{IsFrontFault, IsTakenTo}
use Rattle.accuser.specs.declared.taker.FrontFault.TheVariants.{Stuck}
use Rattle.accuser.proofs.Fed.{ends_bad, ends_stuck, ends_whole, none_left}
use Rattle.accuser.proofs.feed.Feed.finish.Goals as goal

pub returns-in-Some-clause-finishes : goal.returns-in-Some-clause-finishes
returns-in-Some-clause-finishes c = λ s all fed.
    let f = c.args.self.now in
    let bad : f.bad ≡ Some c.in-Some.at = ap (λ (x : Feeding). x.bad) (sym c.self.view_is) ∙ c.in-Some.is in
    ends_bad c.args.session.now c.args.roots.now c.args.file all c.in-Some.at
    (subst (so_far c.args.session.now c.args.roots.now s c.args.taker.now c.args.file all f) bad fed)

pub returns-in-Ok-clause-finishes : goal.returns-in-Ok-clause-finishes
returns-in-Ok-clause-finishes c = λ s all fed.
    let f = c.args.self.now in
    let bad : f.bad ≡ None = ap (λ (x : Feeding). x.bad) (sym c.self.view_is) ∙ none_left c.self.inside.bad c.in_default.not-Some in
    let pending : c.deref.result.now ≡ f.pending = c.deref.ensures.value ∙ ap (λ (x : Feeding). x.pending) c.self.view_is in
    ends_whole c.args.session.now c.args.roots.now c.args.file s c.args.taker.now c.take_front.new.taker all f c.in-Ok.field-0
    (subst (so_far c.args.session.now c.args.roots.now s c.args.taker.now c.args.file all f) bad fed)
    (subst (λ (xs : List ℕ). IsTakenTo c.args.session.now c.args.roots.now c.args.taker.now c.take_front.new.taker c.args.file true xs c.in-Ok.field-0) pending c.in-Ok.ensures.ok)

pub returns-in-Err-Stuck-clause-finishes : goal.returns-in-Err-Stuck-clause-finishes
returns-in-Err-Stuck-clause-finishes c = λ s all fed.
    let f = c.args.self.now in
    let bad : f.bad ≡ None = ap (λ (x : Feeding). x.bad) (sym c.self.view_is) ∙ none_left c.self.inside.bad c.in_default.not-Some in
    let pending : c.deref.result.now ≡ f.pending = c.deref.ensures.value ∙ ap (λ (x : Feeding). x.pending) c.self.view_is in
    let fault : IsFrontFault c.args.session.now c.args.roots.now true c.deref.result.now (Stuck c.in-Err-Stuck.at)
    = subst (IsFrontFault c.args.session.now c.args.roots.now true c.deref.result.now) c.in-Err-Stuck.field-0-is c.in-Err-Stuck.ensures.bad in
    ends_stuck c.args.session.now c.args.roots.now c.args.file s c.args.taker.now all f c.in-Err-Stuck.at
    (subst (so_far c.args.session.now c.args.roots.now s c.args.taker.now c.args.file all f) bad fed)
    (subst (λ (xs : List ℕ). IsFrontFault c.args.session.now c.args.roots.now true xs (Stuck c.in-Err-Stuck.at)) pending fault)
    ∙ ap (λ (x : Feeding). Some (x.at + c.in-Err-Stuck.at)) (sym c.self.view_is)
