use Rattle.std.proofs.Common.{◌≡◌, ◌<◌, ◌+◌, ◌∷◌, ◌++◌, [], ℕ, List, Option, ap, sym, ◌∙◌, length, map, take, get_or, arith, add-one}
use Rattle.std.specs.Prelude.{option_to_list}
use Rattle.std.proofs.lemmas.List.{map-append}
use Rattle.std.proofs.Math.Seq.{take-suc}
use Rattle.socket_station.specs.declared.answers.Ready.{Ready}
use Rattle.memory_station.specs.declared.rows.Row.{Row}
use Rattle.memory_station.specs.declared.rows.Piece.{Piece}
use Rattle.memory_station.specs.Rows.{held_row}
use Rattle.memory_station.specs.HeldRows.{listing, ready_in}
use Rattle.memory_station.proofs.Polls.{listing-more}
use Rattle.memory_station.proofs.listing.list_ready.Goals as goal

-- a turn that lists one row
one-more : (ps : List Piece) (rows items : List Row) (i : ℕ) (d : Row) (ready new : List Ready) (item : Option Ready) → items ≡ rows → i < length items
    → ready ≡ listing (map (held_row ps) (take i rows)) → item ≡ ready_in (held_row ps (get_or items i d)) → new ≡ take 64 (ready ++ option_to_list item)
    → new ≡ listing (map (held_row ps) (take (i + 1) rows))
one-more ps rows items i d ready new item s h inv e n =
    let x = get_or rows i d in
    let is : item ≡ ready_in (held_row ps x) = e ∙ ap (λ ls. ready_in (held_row ps (get_or ls i d))) s in
    let here : i < length rows = (let m = ap length s in omega (arith, m)) in
    let t : map (held_row ps) (take (i + 1) rows) ≡ map (held_row ps) (take i rows) ++ held_row ps x ∷ [] =
    ap (λ k. map (held_row ps) (take k rows)) (add-one i) ∙ (ap (map (held_row ps)) (take-suc rows i d here) ∙ map-append (held_row ps) (take i rows) (x ∷ [])) in
    n ∙ (ap (λ r. take 64 (r ++ option_to_list item)) inv ∙ (ap (λ o. take 64 (listing (map (held_row ps) (take i rows)) ++ option_to_list o)) is
    ∙ (listing-more (map (held_row ps) (take i rows)) (held_row ps x) ∙ ap listing (sym t))))

pub loop-row-preserved : goal.loop-row-preserved
loop-row-preserved c =
    one-more c.args.pieces.now.items c.args.rows.now.items c.as_slice-row-items.result.now c.loop-row.row-index _ c.loop-row.ready c.push_some.new.ready c.ready_of.result c.as_slice-row-items.ensures.value c.loop-row-test.true c.loop-row.invariant c.ready_of.ensures c.push_some.ensures
