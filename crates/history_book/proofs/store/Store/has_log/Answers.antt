use Rattle.std.proofs.Common.{◌+◌, ◌≤◌, ℕ, List, length, sym, subst}
use Rattle.plain_lemmas.proofs.Each.{each_get}
use Rattle.history_book.specs.declared.store.Part.{Part}
use Rattle.history_book.specs.Stores.{AreWithin}
use Rattle.history_book.proofs.store.Store.has_log.Goals as goal

pub is_log_name-requires : goal.is_log_name-requires
is_log_name-requires c =
    let P : List Part → Type 0 = λ ps. AreWithin (length c.self.inside.bytes.items) ps in
    let Q : List ℕ → Type 0 = λ b. AreWithin (length b) c.as_slice-part-items.result.now in
    each_get (λ (p : Part). p.at + p.len ≤ length c.as_slice.result.now) c.as_slice-part-items.result.now c.loop-part.part-index _
    (subst Q (sym c.as_slice.ensures.value) (subst P (sym c.as_slice-part-items.ensures.value) c.self.invariant)) c.loop-part-test.true
