use Rattle.std.proofs.Common.{◌≡◌, List, length, refl, sym, ap, subst, ◌∙◌, arith, map}
use Rattle.std.proofs.lemmas.List.{length-map}
use Rattle.memory_station.specs.declared.rows.Row.{Row}
use Rattle.memory_station.specs.HeldRows.{HeldTable, HeldRow}
use Rattle.memory_station.specs.Rows.{held_row, AreNumbered, AreSound}
use Rattle.memory_station.specs.Rows.{row_uncounted}
use Rattle.memory_station.specs.HeldRows.{uncounted}
use Rattle.memory_station.proofs.Polls.{counted-map, map-uncounted, AreSound-uncounted}
use Rattle.memory_station.proofs.table.Table.count_writes.Goals as goal

pub invariant_of-self : goal.invariant_of-self
invariant_of-self c =
    let rows = c.self.inside.rows.items in
    let ps = c.self.inside.pieces.items in
    let all : c.uncount.new.rows.items ≡ map row_uncounted rows = c.uncount.ensures.items in
    let n : length c.uncount.new.rows.items ≡ length rows = ap length all ∙ length-map rows row_uncounted in
    let P : List Row → Type 0 = λ ls. AreNumbered 0 ls in
    let Q : List Row → Type 0 = λ ls. AreSound ps ls in
    record {
      numbered = subst P (sym all) (counted-map (λ (l : Row). l.number) (λ (l : Row). l.number) row_uncounted (λ l. refl) 0 rows c.self.invariant.numbered);
      sound = subst Q (sym all) (AreSound-uncounted ps rows c.self.invariant.sound);
      few = omega (arith, c.self.invariant.few);
      rows = omega (arith, c.self.invariant.rows, c.uncount.ensures.capacity);
      pieces = c.self.invariant.pieces;
    }

pub returns : goal.returns
returns c =
    let rows = c.self.inside.rows.items in
    let ps = c.self.inside.pieces.items in
    let e : map (held_row ps) c.uncount.new.rows.items ≡ map uncounted (map (held_row ps) rows) = ap (map (held_row ps)) c.uncount.ensures.items ∙ map-uncounted ps rows in
    ap (λ (ls : List HeldRow). record { rows = ls; pieces = length ps; brought = c.self.inside.brought; row_room = c.self.inside.row_room }) e
    ∙ ap (λ (b : HeldTable). record b { rows = map uncounted b.rows }) c.self.view_is
