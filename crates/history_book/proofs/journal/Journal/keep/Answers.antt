use Rattle.std.proofs.Common.{◌≡◌, ◌++◌, length, ap, arith, rules, length-append}
use Rattle.history_book.proofs.Marks.{AreMarks-more}
use Rattle.history_book.proofs.journal.Journal.keep.Goals as goal

pub invariant_of-self : goal.invariant_of-self
invariant_of-self c =
    let all : c.extend_from_slice.new.self.items ≡ c.self.inside.kept.items ++ c.args.bytes.now = search rules in
    let n = length-append c.self.inside.kept.items c.args.bytes.now in
    let m = ap length all in
    AreMarks-more (length c.self.inside.kept.items) (length c.extend_from_slice.new.self.items) c.self.inside.marks.items c.self.invariant (omega (arith, n, m))
