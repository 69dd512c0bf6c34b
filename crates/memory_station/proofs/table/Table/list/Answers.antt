use Rattle.std.proofs.Common.{◌≡◌, List, length, refl, sym, ap, subst, ◌∙◌, arith, rules, map, if◌then◌else◌}
use Rattle.std.proofs.lemmas.List.{length-map}
use Rattle.memory_station.specs.declared.rows.Row.{Row}
use Rattle.memory_station.specs.HeldRows.{HeldTable, HeldRow, row_in}
use Rattle.memory_station.specs.Rows.{held_row, AreNumbered, AreSound}
use Rattle.socket_station.specs.declared.answers.Ready.{Ready}
use Rattle.socket_station.specs.declared.answers.Standing.TheVariants.{Open}
use Rattle.socket_station.specs.Standings.{opens, AreNew}
use Rattle.memory_station.specs.HeldRows.{polled, listing}
use Rattle.memory_station.specs.Rows.{polled_row}
use Rattle.memory_station.proofs.Polls.{map-polled, counted-map, AreSound-polled, AreNew-listing, moves-listing}
use Rattle.memory_station.proofs.table.Table.list.Goals as goal

pub invariant_of-self : goal.invariant_of-self
invariant_of-self c =
    let rows = c.self.inside.rows.items in
    let ps = c.self.inside.pieces.items in
    let all : c.mark_polled.new.rows.items ≡ map (polled_row c.list_ready.new.ready) rows = search rules in
    let n : length c.mark_polled.new.rows.items ≡ length rows = ap length all ∙ length-map rows (polled_row c.list_ready.new.ready) in
    let P : List Row → Type 0 = λ ls. AreNumbered 0 ls in
    let Q : List Row → Type 0 = λ ls. AreSound ps ls in
    record {
      numbered = subst P (sym all) (counted-map (λ (l : Row). l.number) (λ (l : Row). l.number) (polled_row c.list_ready.new.ready) (λ l. refl) 0 rows c.self.invariant.numbered);
      sound = subst Q (sym all) (AreSound-polled ps c.list_ready.new.ready rows c.self.invariant.sound);
      few = omega (arith, c.self.invariant.few);
      rows = omega (arith, c.self.invariant.rows, c.mark_polled.ensures.capacity);
      pieces = c.self.invariant.pieces;
    }

pub returns-clause-after : goal.returns-clause-after
returns-clause-after c =
    let rows = c.self.inside.rows.items in
    let ps = c.self.inside.pieces.items in
    let r = c.list_ready.new.ready in
    let all : c.mark_polled.new.rows.items ≡ map (polled_row r) rows = search rules in
    let e : map (held_row ps) c.mark_polled.new.rows.items ≡ map (polled r) (map (held_row ps) rows) = ap (map (held_row ps)) all ∙ map-polled ps r rows in
    ap (λ (ls : List HeldRow). record { rows = ls; pieces = length ps; brought = c.self.inside.brought; row_room = c.self.inside.row_room }) e
    ∙ ap (λ (b : HeldTable). record b { rows = map (polled r) b.rows }) c.self.view_is

pub returns-clause-fresh : goal.returns-clause-fresh
returns-clause-fresh c =
    let rows = c.self.inside.rows.items in
    let ps = c.self.inside.pieces.items in
    let P : List Ready → Type 0 = λ r. AreNew (λ n. (row_in (map (held_row ps) rows) n).standing) r in
    let Q : HeldTable → Type 0 = λ b. AreNew (λ n. (row_in b.rows n).standing) c.list_ready.new.ready in
    subst Q c.self.view_is (subst P (sym c.list_ready.ensures) (AreNew-listing ps rows c.self.invariant.numbered))

pub returns-clause-moves : goal.returns-clause-moves
returns-clause-moves c n =
    let rows = c.self.inside.rows.items in
    let ps = c.self.inside.pieces.items in
    let r = c.list_ready.new.ready in
    let hl = map (held_row ps) rows in
    let all : c.mark_polled.new.rows.items ≡ map (polled_row r) rows = search rules in
    let e : map (held_row ps) c.mark_polled.new.rows.items ≡ map (polled (listing hl)) hl = ap (map (held_row ps)) all ∙ (map-polled ps r rows ∙ ap (λ v. map (polled v) hl) c.list_ready.ensures) in
    ap (λ ls. (row_in ls n).standing) e ∙ (moves-listing n hl ∙ (ap (λ v. if opens v n then Open else (row_in hl n).standing) (sym c.list_ready.ensures)
    ∙ ap (λ (b : HeldTable). if opens r n then Open else (row_in b.rows n).standing) c.self.view_is))
