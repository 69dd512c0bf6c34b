-- MakeLaw: what is promised of `make`: the match of a number is made, and no file is read.
use Rattle.std.specs.Prelude.{◌≡◌, ℕ, []}
use Rattle.run_frame.specs.Frame.{EndCause}
use Rattle.make_command.specs.Make.{make_answer}
use Rattle.make_command.specs.Summaries.{EndsFairly}
use Rattle.run_frame.specs.Law.{Law, law_without_input}

abbrev pub make_law : (number : ℕ) → Law
make_law number = law_without_input []
    (λ before after calls. after ≡ before)
    (λ contents. make_answer number)
    (λ contents status. EndCause status)
    (λ contents. Unit {0})
    (λ contents. EndsFairly number)
