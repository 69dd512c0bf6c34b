use Rattle.std.proofs.Common.{◌≡◌, ◌-◌, ◌+◌, suc, false, true, sym, ap, ◌∙◌, arith}
use Rattle.definitions.specs.World.{has_cell}
use Rattle.make_command.specs.declared.sizes.TheConstants.{CELLS}
use Rattle.make_command.specs.Making.{cell_at, open_place}
use Rattle.make_command.proofs.Drawn.{place_found, place_none, place_on}
use Rattle.make_command.proofs.sessions.open_place.Goals as goal

pub returns-then-not-has_cell : goal.returns-then-not-has_cell
returns-then-not-has_cell c =
    let l = c.loop-step in
    let walls = c.args.walls.now in
    let e : CELLS - l.step ≡ suc (CELLS - (l.step + 1)) = omega arith in
    let free : has_cell walls (cell_at l.place) ≡ false = ap (has_cell walls) (sym c.cell_at.ensures) ∙ sym c.has_cell.ensures ∙ c.if-not-has_cell.true in
    sym (place_found walls (CELLS - (l.step + 1)) l.place free) ∙ ap (λ n. open_place walls n l.place) (sym e) ∙ l.invariant.1

pub loop-step-preserved : goal.loop-step-preserved
loop-step-preserved c =
    let l = c.loop-step in
    let walls = c.args.walls.now in
    let e : CELLS - l.step ≡ suc (CELLS - (l.step + 1)) = omega arith in
    let full : has_cell walls (cell_at l.place) ≡ true = ap (has_cell walls) (sym c.cell_at.ensures) ∙ sym c.has_cell.ensures ∙ c.if-not-has_cell.false in
    (omega arith, sym (place_on walls (CELLS - (l.step + 1)) l.place full) ∙ ap (λ n. open_place walls n l.place) (sym e) ∙ l.invariant.1)

pub returns : goal.returns
returns c =
    let l = c.loop-step in
    let walls = c.args.walls.now in
    let e : CELLS - l.step ≡ 0 = omega arith in
    sym (place_none walls l.place) ∙ ap (λ n. open_place walls n l.place) (sym e) ∙ l.invariant.1
