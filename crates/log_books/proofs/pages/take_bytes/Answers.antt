use Rattle.std.proofs.Common.{◌+◌, ◌∙◌, ◌<◌, ◌≤◌, ◌-◌, ◌≡◌, IfSome, None, Option, Some, [], arith, drop, length, refl, subst, ℕ}
use Rattle.definitions.specs.World.{Game}
use Rattle.log_books.specs.Heeding.{ComesOn}
use Rattle.log_books.proofs.Heeding.{comes_none, so_all, so_on}
use Rattle.log_books.proofs.pages.take_bytes.Goals as goal

pub batches-init : goal.batches-init
batches-init c = record {
  at = omega arith;
  few = let few = c.requires.few in omega (arith, few);
  within = omega arith;
  feeding = c.requires.feeding;
  room = c.requires.places;
  session = refl;
  game = refl;
  others = λ i ne. (refl, refl);
  so = λ f is. (f, [], is, refl, comes_none c.args.auditor.now.session c.args.player c.args.auditor.now c.args.agreed.now);
}

pub batches-preserved : goal.batches-preserved
batches-preserved c =
    let before = c.batches.invariant in
    let used = c.in_ok-next.ensures.used in
    let here = subst (λ (o : Option ℕ). IfSome o (λ next. (c.batches.at < next) × (next ≤ length c.args.bytes.now) × (c.take_on.new.feed.used ≡ c.batches.feed.used + (next - c.batches.at)))) c.in-Some.is used in
    let on : Game → Option ℕ → Type 0 = λ g o. ComesOn g c.batches.auditor c.take_on.new.auditor c.batches.agreed c.take_on.new.agreed c.args.player c.batches.feed c.take_on.new.feed c.args.bytes.now c.batches.at o in
    let next = subst (λ (g : Game). on g (Some c.in-Some.next)) before.session (subst (on c.batches.auditor.session) c.in-Some.is c.in_ok-next.ensures.next) in
    record {
      at = here.1;
      few = let few = before.few in let is = here.2 in let le = here.1 in let gt = here.0 in omega arith;
      within = let within = before.within in let is = here.2 in let le = here.1 in let gt = here.0 in omega arith;
      feeding = c.in_ok-next.ensures.feeding;
      room = let same = c.take_on.ensures.room in let some = before.room in omega arith;
      session = c.take_on.ensures.session ∙ before.session;
      game = c.take_on.ensures.game ∙ before.game;
      others = λ i ne. let old = before.others i ne in let now = c.take_on.ensures.others i ne in (now.0 ∙ old.0, now.1 ∙ old.1);
      so = λ f is.
          so_on c.args.auditor.now.session c.args.player c.args.auditor.now c.batches.auditor c.take_on.new.auditor c.args.agreed.now c.batches.agreed c.take_on.new.agreed c.batches.feed c.take_on.new.feed f c.args.bytes.now c.args.bytes.now
          c.batches.at c.in-Some.next next (before.so f is);
    }

pub returns-clause-all : goal.returns-clause-all
returns-clause-all c = λ f is.
    let before = c.batches.invariant in
    let on : Game → Option ℕ → Type 0 = λ g o. ComesOn g c.batches.auditor c.take_on.new.auditor c.batches.agreed c.take_on.new.agreed c.args.player c.batches.feed c.take_on.new.feed c.args.bytes.now c.batches.at o in
    let next = subst (λ (g : Game). on g None) before.session (subst (on c.batches.auditor.session) c.in_default.is c.in_ok-next.ensures.next) in
    so_all c.args.auditor.now.session c.args.player c.args.auditor.now c.batches.auditor c.take_on.new.auditor c.args.agreed.now c.batches.agreed c.take_on.new.agreed c.args.feed.now c.batches.feed c.take_on.new.feed f c.args.bytes.now
    (drop c.batches.at c.args.bytes.now) (before.so f is) next
