use Rattle.std.proofs.Common.{◌≡◌, refl, sym, ◌∙◌, length, arith}
use Rattle.std.proofs.lemmas.List.{length-map}
use Rattle.station_mio.specs.Rows.{stand_of, stands_of}
use Rattle.station_mio.proofs.Places.{passed_more, passed_found, passed_all, stands_at}
use Rattle.station_mio.proofs.rows.place_of.Goals as goal

pub loop-place-init : goal.loop-place-init
loop-place-init g c = refl

pub returns-then-number-clause-found : goal.returns-then-number-clause-found
returns-then-number-clause-found g c =
    let row = c.index-rows-place.result in
    passed_found c.args.number (stands_of g.S.Numbered.number c.args.rows.now) c.loop-place.place (stand_of g.S.Numbered.number row) c.loop-place.invariant
    (stands_at g.S.Numbered.number c.args.rows.now c.loop-place.place row c.loop-place-test.true c.index-rows-place.is)
    (sym c.number.ensures ∙ c.if-number.true)

pub loop-place-preserved : goal.loop-place-preserved
loop-place-preserved g c =
    let row = c.index-rows-place.result in
    passed_more c.args.number (stands_of g.S.Numbered.number c.args.rows.now) c.loop-place.place (stand_of g.S.Numbered.number row) c.loop-place.invariant
    (stands_at g.S.Numbered.number c.args.rows.now c.loop-place.place row c.loop-place-test.true c.index-rows-place.is)
    (λ e. c.if-number.false (c.number.ensures ∙ e))

pub returns-clause-found : goal.returns-clause-found
returns-clause-found g c =
    let rows = c.args.rows.now in
    let end = c.loop-place-test.false in
    let same : length (stands_of g.S.Numbered.number rows) ≡ length rows = length-map rows (stand_of g.S.Numbered.number) in
    passed_all c.args.number (stands_of g.S.Numbered.number rows) c.loop-place.place c.loop-place.invariant (omega (arith, same, end))
