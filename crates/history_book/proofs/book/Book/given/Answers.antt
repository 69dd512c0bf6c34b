use Rattle.std.proofs.Common.{◌≡◌, ◌++◌, ℕ, List, length, take, drop, min, ap, ◌∙◌}
use Rattle.socket_station.specs.Moved.{given_in}
use Rattle.history_book.specs.HeldBooks.{HeldBook}
use Rattle.history_book.specs.Stores.{HeldPart, given_parts}
use Rattle.history_book.proofs.Histories.{given-parts}
use Rattle.history_book.proofs.book.Book.given.Goals as goal

pub returns-clause-count : goal.returns-clause-count
returns-clause-count c =
    let e : given_parts c.args.socket c.self.inside.store.parts ≡ given_in c.args.socket c.args.self.now.history =
    ap (λ (parts : List HeldPart). given_parts c.args.socket parts) c.self.invariant.seen.parts
    ∙ (given-parts c.args.socket c.self.inside.notes ∙ ap (λ (b : HeldBook). given_in c.args.socket b.history) c.self.view_is) in
    c.given.ensures.count ∙ ap (λ (bytes : List ℕ). min (length c.args.out.now) (length (drop c.args.at bytes))) e

pub returns-clause-bytes : goal.returns-clause-bytes
returns-clause-bytes c =
    let e : given_parts c.args.socket c.self.inside.store.parts ≡ given_in c.args.socket c.args.self.now.history =
    ap (λ (parts : List HeldPart). given_parts c.args.socket parts) c.self.invariant.seen.parts
    ∙ (given-parts c.args.socket c.self.inside.notes ∙ ap (λ (b : HeldBook). given_in c.args.socket b.history) c.self.view_is) in
    c.given.ensures.bytes ∙ ap (λ (bytes : List ℕ). take c.given.result (drop c.args.at bytes) ++ drop c.given.result c.args.out.now) e
