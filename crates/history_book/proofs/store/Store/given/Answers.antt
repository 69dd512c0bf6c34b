use Rattle.std.proofs.Common.{◌≡◌, ◌+◌, ◌++◌, ◌≤◌, ℕ, List, length, map, take, get_or, ap, sym, subst, ◌∙◌}
use Rattle.plain_lemmas.proofs.Each.{each_get}
use Rattle.history_book.specs.declared.store.Part.{Part}
use Rattle.history_book.specs.declared.store.What.TheVariants.{Given}
use Rattle.history_book.specs.Stores.{AreWithin, part_of, given_part, given_parts}
use Rattle.history_book.proofs.Givings.{turn, given-more}
use Rattle.history_book.proofs.store.Store.given.Goals as goal

pub given_bytes-bytes-requires : goal.given_bytes-bytes-requires
given_bytes-bytes-requires c =
    let P : List Part → Type 0 = λ ps. AreWithin (length c.self.inside.bytes.items) ps in
    let Q : List ℕ → Type 0 = λ b. AreWithin (length b) c.as_slice-part-items.result.now in
    each_get (λ (p : Part). p.at + p.len ≤ length c.as_slice.result.now) c.as_slice-part-items.result.now c.loop-part.part-index _
    (subst Q (sym c.as_slice.ensures.value) (subst P (sym c.as_slice-part-items.ensures.value) c.self.invariant)) c.loop-part-test.true

-- the part that stands for a place that there isn't
abbrev none : Part
none = record { what = Given 0; at = 0; len = 0 }

pub loop-part-preserved : goal.loop-part-preserved
loop-part-preserved c =
    let items = c.as_slice-part-items.result.now in
    let i = c.loop-part.part-index in
    let bytes = c.self.inside.bytes.items in
    let given = given_parts c.args.socket (map (part_of bytes) (take i items)) in
    let after = given_parts c.args.socket (map (part_of bytes) (take (i + 1) items)) in
    let more = c.given_bytes-bytes.result.now in
    let is : after ≡ given ++ more = given-more c.args.socket bytes items i none c.loop-part-test.true
    ∙ ap (λ r. given ++ r) (sym (c.given_bytes-bytes.ensures ∙ ap (λ b. given_part c.args.socket (part_of b (get_or items i none))) c.as_slice.ensures.value)) in
    let inv = c.loop-part.invariant in
    let t = turn c.args.out.now c.loop-part.out c.copy_at-done.new.out c.args.at c.loop-part.done c.loop-part.skip c.min-from.result c.copy_at-done.result given after more
    inv.skip inv.copied is c.min-from.ensures c.copy_at-done.ensures.count c.copy_at-done.ensures.bytes in
    record { skip = t.skips; copied = t.copied }
