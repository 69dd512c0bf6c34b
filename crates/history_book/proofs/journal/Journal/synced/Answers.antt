use Rattle.std.proofs.Common.{◌≡◌, ◌≤◌, length, ap, ◌∙◌, arith}
use Rattle.std.proofs.lemmas.List.{length-take}
use Rattle.history_book.specs.Journals.{synced_at}
use Rattle.history_book.proofs.Marks.{synced-inside}
use Rattle.history_book.proofs.journal.Journal.synced.Goals as goal

pub slice_bounds-result-end : goal.slice_bounds-result-end
slice_bounds-result-end c =
    let kept = c.self.inside.kept.items in
    let h : c.synced_until-until.result ≤ length kept =
    (let s = synced-inside (length kept) c.args.items c.self.inside.marks.items c.self.invariant in
    let e : c.synced_until-until.result ≡ synced_at c.args.items c.self.inside.marks.items = c.synced_until-until.ensures ∙ ap (synced_at c.args.items) c.as_slice.ensures.value in omega (arith, s, e)) in
    let d : length c.deref.result.now ≡ length kept = ap length c.deref.ensures.value in
    let l = length-take c.synced_until-until.result c.deref.result.now in
    omega (arith, h, d, l)
