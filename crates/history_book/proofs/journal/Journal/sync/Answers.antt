use Rattle.std.proofs.Common.{◌≡◌, ◌≤◌, ◌++◌, ◌∷◌, [], List, length, sym, subst, arith, rules}
use Rattle.plain_lemmas.proofs.Each.{each_push}
use Rattle.history_book.specs.declared.journal.SyncMark.{SyncMark}
use Rattle.history_book.specs.Journals.{AreMarks}
use Rattle.history_book.proofs.journal.Journal.sync.Goals as goal

pub invariant_of-self : goal.invariant_of-self
invariant_of-self c =
    let k : SyncMark = record { items = c.args.items; kept = length c.self.inside.kept.items } in
    let all : c.push.new.self.items ≡ c.self.inside.marks.items ++ k ∷ [] = search rules in
    let P : List SyncMark → Type 0 = λ ms. AreMarks (length c.self.inside.kept.items) ms in
    subst P (sym all) (each_push (λ x. x.kept ≤ length c.self.inside.kept.items) c.self.inside.marks.items k c.self.invariant (omega arith))
