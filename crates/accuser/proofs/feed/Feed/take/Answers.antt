use Rattle.std.proofs.Common.{◌≡◌, ◌+◌, ◌++◌, None, ap, drop, false, subst, sym, true, ◌∙◌}
use Rattle.std.specs.Prelude.{is_some}
use Rattle.accuser.specs.Feeds.{Feeding, IsBadFrom, so_far}
use Rattle.accuser.specs.Taking.{IsFrontFault}
use Rattle.accuser.specs.declared.taker.FrontFault.TheVariants.{Stuck}
use Rattle.accuser.proofs.Fed.{gets_stuck, goes_on, none_there, stays_as_bad}
use Rattle.accuser.proofs.feed.Feed.take.Goals as goal

pub returns-then-is_some-clause-fed : goal.returns-then-is_some-clause-fed
returns-then-is_some-clause-fed c = λ s all fed.
    let f = c.args.self.now in
    let some : is_some f.bad ≡ true = ap (λ (x : Feeding). is_some x.bad) (sym c.self.view_is) ∙ sym c.is_some.ensures ∙ c.if-is_some.true in
    stays_as_bad c.args.session.now c.args.roots.now c.args.file s c.args.taker.now all c.args.bytes.now f some fed

pub returns-in-Ok-clause-fed : goal.returns-in-Ok-clause-fed
returns-in-Ok-clause-fed c = λ s all fed.
    let f = c.args.self.now in
    let none = none_there c.self.inside.bad (sym c.is_some.ensures ∙ c.if-is_some.false) in
    let bad : f.bad ≡ None = ap (λ (x : Feeding). x.bad) (sym c.self.view_is) ∙ none in
    let joined : c.deref.result.now ≡ f.pending ++ c.args.bytes.now
    = c.deref.ensures.value ∙ c.in_ok-extend_from_slice.ensures.items ∙ ap (λ (x : Feeding). x.pending ++ c.args.bytes.now) c.self.view_is in
    goes_on c.args.session.now c.args.roots.now c.args.file s c.args.taker.now c.take_front.new.taker all c.args.bytes.now c.deref.result.now f _ c.in-Ok.count
    (subst (so_far c.args.session.now c.args.roots.now s c.args.taker.now c.args.file all f) bad fed) joined c.in-Ok.ensures.ok
    (c.drop_front.ensures ∙ ap (drop c.in-Ok.count) (sym c.deref.ensures.value)) (ap (λ (x : Feeding). x.at + c.in-Ok.count) c.self.view_is) none

pub returns-in-Err-Stuck-clause-fed : goal.returns-in-Err-Stuck-clause-fed
returns-in-Err-Stuck-clause-fed c = λ s all fed.
    let f = c.args.self.now in
    let bad : f.bad ≡ None = ap (λ (x : Feeding). x.bad) (sym c.self.view_is) ∙ none_there c.self.inside.bad (sym c.is_some.ensures ∙ c.if-is_some.false) in
    let joined : c.deref.result.now ≡ f.pending ++ c.args.bytes.now
    = c.deref.ensures.value ∙ c.in_ok-extend_from_slice.ensures.items ∙ ap (λ (x : Feeding). x.pending ++ c.args.bytes.now) c.self.view_is in
    let fault : IsFrontFault c.args.session.now c.args.roots.now false c.deref.result.now (Stuck c.in-Err-Stuck.at)
    = subst (IsFrontFault c.args.session.now c.args.roots.now false c.deref.result.now) c.in-Err-Stuck.field-0-is c.in-Err-Stuck.ensures.bad in
    subst (λ (x : Feeding). IsBadFrom c.args.session.now c.args.roots.now (all ++ c.args.bytes.now) (x.at + c.in-Err-Stuck.at)) (sym c.self.view_is)
    (gets_stuck c.args.session.now c.args.roots.now c.args.file s c.args.taker.now all c.args.bytes.now c.deref.result.now f c.in-Err-Stuck.at
    (subst (so_far c.args.session.now c.args.roots.now s c.args.taker.now c.args.file all f) bad fed) joined fault)
