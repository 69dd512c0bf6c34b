use Rattle.std.proofs.Common.{◌≡◌, ◌≤◌, ◌<◌, ◌+◌, ◌∷◌, ◌++◌, [], ℕ, List, length, refl, sym, ap, subst, ◌∙◌, arith, rules, map, if◌then◌else◌, false, length-append}
use Rattle.std.proofs.lemmas.List.{map-append}
use Rattle.std.proofs.Common.{◌==◌}
use Rattle.memory_station.specs.declared.rows.Row.{Row}
use Rattle.memory_station.specs.HeldRows.{HeldTable, row_in, new_row}
use Rattle.memory_station.specs.Rows.{held_row, cut_front, IsInside, AreNumbered, AreSound}
use Rattle.memory_station.proofs.Tables.{row_in-push, row_in-above, AreNumbered-push, AreSound-push}
use Rattle.memory_station.proofs.Fronts.{raw-new}
use Rattle.memory_station.proofs.table.Table.add.Goals as goal

pub invariant_of-self : goal.invariant_of-self
invariant_of-self c =
    let rows = c.self.inside.rows.items in
    let ps = c.self.inside.pieces.items in
    let y : Row = record { number = length rows; standing = c.args.standing; from = length ps; at = 0; is_finished = false; seems_ready = false; is_refused = false; is_even = false } in
    let all : c.push.new.self.items ≡ rows ++ y ∷ [] = search rules in
    let n : length c.push.new.self.items ≡ length rows + 1 = ap length all ∙ length-append rows (y ∷ []) in
    let room : 0 < c.args.self.now.row_room = c.requires in
    let same : c.self.inside.row_room ≡ c.args.self.now.row_room = ap (λ (b : HeldTable). b.row_room) c.self.view_is in
    let P : List Row → Type 0 = λ ls. AreNumbered 0 ls in
    let Q : List Row → Type 0 = λ ls. AreSound ps ls in
    record {
      numbered = subst P (sym all) (AreNumbered-push 0 rows y c.self.invariant.numbered (omega arith));
      sound = subst Q (sym all) (AreSound-push ps rows y c.self.invariant.sound (record { from = omega arith; inside = (let R : List (List ℕ) → Type 0 = λ r. IsInside 0 r in subst R (sym (raw-new ps (length rows))) refl) }));
      few = omega (arith, c.self.invariant.few);
      rows = omega (arith, c.self.invariant.rows, c.push.ensures.capacity);
      pieces = c.self.invariant.pieces;
    }

pub returns-clause-fresh : goal.returns-clause-fresh
returns-clause-fresh c =
    let rows = c.self.inside.rows.items in
    let ps = c.self.inside.pieces.items in
    let k0 : length rows ≤ c.len-number.result = search rules in
    let k : 0 + length rows ≤ c.len-number.result = omega arith in
    sym (ap (λ (b : HeldTable). row_in b.rows c.len-number.result) c.self.view_is) ∙ row_in-above ps 0 c.len-number.result rows c.self.invariant.numbered k

pub returns-clause-rows : goal.returns-clause-rows
returns-clause-rows c n =
    let rows = c.self.inside.rows.items in
    let ps = c.self.inside.pieces.items in
    let st = c.args.standing in
    let k : length rows ≡ c.len-number.result = search rules in
    let y : Row = record { number = length rows; standing = st; from = length ps; at = 0; is_finished = false; seems_ready = false; is_refused = false; is_even = false } in
    let all : c.push.new.self.items ≡ rows ++ y ∷ [] = search rules in
    let hy : held_row ps y ≡ new_row (length rows) st = ap (λ (r : List (List ℕ)). record (new_row (length rows) st) { pieces = cut_front 0 r }) (raw-new ps (length rows)) in
    let e : map (held_row ps) c.push.new.self.items ≡ map (held_row ps) rows ++ new_row (length rows) st ∷ [] =
    ap (map (held_row ps)) all ∙ (map-append (held_row ps) rows (y ∷ []) ∙ ap (λ v. map (held_row ps) rows ++ v ∷ []) hy) in
    ap (λ ls. row_in ls n) e
    ∙ (row_in-push ps n rows (new_row (length rows) st) c.self.invariant.numbered refl
    ∙ (ap (λ (j : ℕ). if j == n then new_row j st else row_in (map (held_row ps) rows) n) k
    ∙ ap (λ (b : HeldTable). if c.len-number.result == n then new_row c.len-number.result st else row_in b.rows n) c.self.view_is))
