use Rattle.std.proofs.Common.{sym, subst}
use Rattle.history_book.specs.declared.tally.Tally.{Tally}
use Rattle.history_book.specs.Insides.{IsSeen}
use Rattle.socket_station.specs.Items.{Item}
use Rattle.std.proofs.Common.{List, []}
use Rattle.history_book.proofs.Histories.{seen-none}
use Rattle.history_book.proofs.book.Book.new.Goals as goal

pub invariant_of-result : goal.invariant_of-result
invariant_of-result c =
    let d = c.in_ok-new.field-0 in
    let s = c.in_ok-new-2.field-0 in
    let j = c.in_ok-new-3.field-0 in
    let t = c.in_ok-new-2.ensures in
    let k = c.in_ok-new-3.ensures in
    let P : List Item → Type 0 = λ h. IsSeen h c.new-2.result d s.parts j in
    let Q : Tally → Type 0 = λ r. IsSeen [] r d s.parts j in
    record {
      seen = subst P (sym c.new.ensures) (subst Q (sym c.new-2.ensures) (seen-none d s.parts j c.in_ok-new.ensures t.0 k.0 k.1));
      held = record { store_items = t.1; store_bytes = t.2; journal_items = k.2; journal_bytes = k.3 };
    }
