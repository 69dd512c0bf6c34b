use Rattle.std.proofs.Common.{◌<◌, ◌∙◌, ℕ, List, Some, [], ◌∷◌, sym, ap, subst, length}
use Rattle.std.proofs.lemmas.List.{length-map}
use Rattle.station_mio.specs.Rows.{Stand, IsPlaceOf, stand_of, up, raised}
use Rattle.station_mio.proofs.Places.{stands_set}
use Rattle.station_mio.proofs.rows.Rows.raise.Goals as goal

pub returns-in-None-clause-stands : goal.returns-in-None-clause-stands
returns-in-None-clause-stands g c = sym (c.in-None.ensures.found.1 (λ s. up s ∷ []))

pub returns-in-Some-clause-stands : goal.returns-in-Some-clause-stands
returns-in-Some-clause-stands g c =
    let number = g.S.Numbered.number in
    let rows = c.self.inside.rows.items in
    let place = c.in-Some.place in
    let few : place < length rows = subst (λ (x : ℕ). place < x) (ap (λ (x : List Stand). length x) (sym c.self.view_is) ∙ length-map rows (stand_of number)) c.in-Some.ensures.inside in
    let at = subst (λ (x : List Stand). IsPlaceOf c.args.number x (Some place)) (sym c.self.view_is) c.in-Some.ensures.found in
    stands_set number c.args.number up rows place c.raise.new.row c.index_mut.result.now few at
    (c.raise.ensures ∙ ap (λ r. up (stand_of number r)) c.index_mut.ensures.value) ∙
    ap (λ (x : List Stand). raised c.args.number x) c.self.view_is
