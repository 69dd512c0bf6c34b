use Rattle.std.proofs.Common.{◌≡◌, ◌<◌, ◌+◌, ◌∙◌, ℕ, List, length, get_or, take, min, sym, ap, subst}
use Rattle.std.proofs.lemmas.List.{get_or-map, length-map}
use Rattle.station_mio.specs.Rows.{Stand, stand_of, stands_of}
use Rattle.station_mio.specs.Waiting.{patience_for, patience_of}
use Rattle.station_mio.proofs.Seeing.{patience_more}
use Rattle.station_mio.proofs.dialling.patience_of.Goals as goal

pub loop-row-preserved : goal.loop-row-preserved
loop-row-preserved g c =
    let number = g.S.Numbered.number in
    let now = c.args.now in
    let items = c.as_slice-row-items.result.now in
    let i = c.loop-row.row-index in
    let row = c.row-item.result in
    let s = stand_of number row in
    let same : stands_of number items ≡ c.args.rows.now = ap (λ x. stands_of number x) c.as_slice-row-items.ensures.value ∙ c.rows.view_is in
    let few : i < length (stands_of number items) = subst (λ (x : ℕ). i < x) (sym (length-map items (stand_of number))) c.loop-row-test.true in
    let is : get_or (stands_of number items) i s ≡ s = get_or-map (stand_of number) items i row s c.loop-row-test.true ∙ ap (stand_of number) (sym c.row-item.is) in
    c.min-patience.ensures ∙
    ap (λ (x : ℕ). min c.loop-row.patience x) (c.patience_for.ensures number) ∙
    ap (λ (x : ℕ). min x (patience_for now s)) c.loop-row.invariant ∙
    subst (λ (x : List Stand). min (patience_of now (take i x)) (patience_for now s) ≡ patience_of now (take (i + 1) x)) same (patience_more now (stands_of number items) i s few is)
