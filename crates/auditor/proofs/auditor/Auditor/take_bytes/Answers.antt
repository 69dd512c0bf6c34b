use Rattle.std.proofs.Common.{◌+◌, ◌∙◌, ◌<◌, ◌≤◌, ◌-◌, ◌≡◌, IfSome, None, Option, Some, arith, drop, length, subst, ℕ}
use Rattle.definitions.specs.World.{Game}
use Rattle.auditor.specs.Taking.{TakesOn, TakesSome}
use Rattle.auditor.proofs.Fed.{on_err_always, so_on, takes_all, takes_some}
use Rattle.auditor.proofs.auditor.Auditor.take_bytes.Goals as goal

pub returns-in_err-next-clause-some : goal.returns-in_err-next-clause-some
returns-in_err-next-clause-some c = on_err_always c.from_residual.result (λ f is.
    let before = c.batches.invariant in
    let so = before.so f is in
    let left = drop c.batches.at c.args.bytes.now in
    let some = subst (λ (g : Game). TakesSome g c.batches.self c.take_on.new.self c.args.log left so.0) before.session (c.in_err-next.ensures.some so.0 so.2) in
    takes_some c.args.self.now.session c.args.self.now c.batches.self c.take_on.new.self c.args.log c.args.bytes.now left f so.0 so.1 so.3 so.4 some)

pub batches-preserved : goal.batches-preserved
batches-preserved c =
    let before = c.batches.invariant in
    let used = c.in_ok-next.ensures.used in
    let here = subst (λ (o : Option ℕ). IfSome o (λ next. (c.batches.at < next) × (next ≤ length c.args.bytes.now) × (c.take_on.new.feed.used ≡ c.batches.feed.used + (next - c.batches.at)))) c.in-Some.is used in
    let on : Game → Option ℕ → Type 0 = λ g o. TakesOn g c.batches.self c.take_on.new.self c.args.log c.batches.feed c.take_on.new.feed c.args.bytes.now c.batches.at o in
    let next = subst (λ (g : Game). on g (Some c.in-Some.next)) before.session (subst (on c.batches.self.session) c.in-Some.is c.in_ok-next.ensures.next) in
    record {
      at = here.1;
      few = let few = before.few in let is = here.2 in let le = here.1 in let gt = here.0 in omega arith;
      within = let within = before.within in let is = here.2 in let le = here.1 in let gt = here.0 in omega arith;
      feeding = c.in_ok-next.ensures.feeding;
      room = let same = c.take_on.ensures.room in let some = before.room in omega arith;
      session = c.take_on.ensures.session ∙ before.session;
      others = λ i ne. let old = before.others i ne in let now = c.take_on.ensures.others i ne in (now.0 ∙ old.0, now.1 ∙ old.1);
      so = λ f is.
          so_on c.args.self.now.session c.args.self.now c.batches.self c.take_on.new.self c.args.log c.batches.feed c.take_on.new.feed f c.args.bytes.now c.args.bytes.now c.batches.at c.in-Some.next next
          (before.so f is);
    }

pub returns-clause-all : goal.returns-clause-all
returns-clause-all c = λ f is.
    let before = c.batches.invariant in
    let so = before.so f is in
    let on : Game → Option ℕ → Type 0 = λ g o. TakesOn g c.batches.self c.take_on.new.self c.args.log c.batches.feed c.take_on.new.feed c.args.bytes.now c.batches.at o in
    let next = subst (λ (g : Game). on g None) before.session (subst (on c.batches.self.session) c.in_default.is c.in_ok-next.ensures.next) so.0 so.2 in
    takes_all c.args.self.now.session c.args.self.now c.batches.self c.take_on.new.self c.args.log c.args.feed.now c.batches.feed c.take_on.new.feed c.args.bytes.now (drop c.batches.at c.args.bytes.now) f so.0 so.1 so.3 so.4 next
