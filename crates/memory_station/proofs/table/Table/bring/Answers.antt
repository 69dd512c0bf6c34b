use Rattle.std.proofs.Common.{◌≡◌, ◌<◌, ◌+◌, ◌∷◌, ◌++◌, [], ℕ, List, length, sym, ap, subst, ◌∙◌, arith, rules, map, nat_lt, true, length-append}
use Rattle.std.proofs.lemmas.Bool.Decides.{nat_tests}
use Rattle.memory_station.specs.declared.rows.Piece.{Piece}
use Rattle.memory_station.specs.HeldRows.{HeldTable, HeldRow, held_at, with_piece, brought_on}
use Rattle.memory_station.specs.Rows.{held_row, AreSound}
use Rattle.memory_station.proofs.Fronts.{held_at-more, AreSound-more}
use Rattle.memory_station.proofs.table.Table.bring.Goals as goal

pub invariant_of-self : goal.invariant_of-self
invariant_of-self c =
    let rows = c.self.inside.rows.items in
    let ps = c.self.inside.pieces.items in
    let p : Piece = record { socket = c.args.socket; bytes = c.args.piece } in
    let all : c.push.new.self.items ≡ ps ++ p ∷ [] = search rules in
    let P : List Piece → Type 0 = λ v. AreSound v rows in
    record {
      numbered = c.self.invariant.numbered;
      sound = subst P (sym all) (AreSound-more ps p rows c.requires c.self.invariant.sound);
      few = c.self.invariant.few;
      rows = c.self.invariant.rows;
      pieces = omega (arith, c.self.invariant.pieces, c.push.ensures.capacity);
    }

pub returns-clause-after : goal.returns-clause-after
returns-clause-after c =
    let rows = c.self.inside.rows.items in
    let ps = c.self.inside.pieces.items in
    let p : Piece = record { socket = c.args.socket; bytes = c.args.piece } in
    let all : c.push.new.self.items ≡ ps ++ p ∷ [] = search rules in
    let n : length c.push.new.self.items ≡ length ps + 1 = ap length all ∙ length-append ps (p ∷ []) in
    let held : map (held_row c.push.new.self.items) rows ≡ held_at c.args.socket (with_piece c.args.piece) (map (held_row ps) rows) =
    ap (λ v. map (held_row v) rows) all ∙ held_at-more ps p rows c.self.invariant.sound in
    let m : c.args.self.now.pieces ≡ length ps = sym (ap (λ (b : HeldTable). b.pieces) c.self.view_is) in
    let few : length ps < 65536 = search rules in
    let t : nat_lt c.args.self.now.pieces 65536 ≡ true = grind (arith, nat_tests) in
    rw t (ap (λ (ls : List HeldRow). record { rows = ls; pieces = length c.push.new.self.items; brought = c.self.inside.brought; row_room = c.self.inside.row_room }) held
    ∙ (ap (λ (k : ℕ). record { rows = held_at c.args.socket (with_piece c.args.piece) (map (held_row ps) rows); pieces = k; brought = c.self.inside.brought; row_room = c.self.inside.row_room }) n
    ∙ ap (λ (b : HeldTable). brought_on c.args.socket c.args.piece b) c.self.view_is))
