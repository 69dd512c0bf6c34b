use Rattle.std.proofs.Common.{ap, drop, sym, ◌∙◌}
use Rattle.drive_command.specs.Driven.{Driven}
use Rattle.drive_command.specs.Outcomes.{bytes_from}
use Rattle.drive_command.proofs.Parts.{found_bad, found_frame, found_more}
use Rattle.drive_command.proofs.driver.Driver.take_part.Goals as goal

pub returns-in-More-clause-answers : goal.returns-in-More-clause-answers
returns-in-More-clause-answers c = λ input.
    ap (λ (d : Driven). bytes_from d c.args.from c.args.bytes.now input) (sym c.self.view_is) ∙
    found_more _ _ _ _ _ _ _ _ (drop c.feed-fed.result.used c.args.bytes.now) input c.feed-fed.ensures.readers (rw c.in-More.is at c.feed-fed.ensures.rest) (rw c.in-More.is at c.feed-fed.ensures.so)

pub returns-in-Bad-clause-answers : goal.returns-in-Bad-clause-answers
returns-in-Bad-clause-answers c = λ input.
    let so = rw c.in-Bad.is at c.feed-fed.ensures.so in
    ap (λ (d : Driven). bytes_from d c.args.from c.args.bytes.now input) (sym c.self.view_is) ∙
    found_bad _ _ _ _ _ _ _ _ _ (drop c.feed-fed.result.used c.args.bytes.now) input c.feed-fed.ensures.readers (rw c.in-Bad.is at c.feed-fed.ensures.rest) so.0 so.1

pub returns-in-Whole-clause-answers : goal.returns-in-Whole-clause-answers
returns-in-Whole-clause-answers c = λ input.
    ap (λ (d : Driven). bytes_from d c.args.from c.args.bytes.now input) (sym c.self.view_is) ∙
    found_frame _ _ _ _ _ _ _ _ _ _ _ _ (drop c.feed-fed.result.used c.args.bytes.now) input c.feed-fed.ensures.readers (rw c.in-Whole.is at c.feed-fed.ensures.rest)
    c.take-arrival.ensures.after c.take-arrival.ensures.further c.take-arrival.ensures.text
