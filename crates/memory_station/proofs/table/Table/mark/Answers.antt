use Rattle.std.proofs.Common.{◌≡◌, ◌≤◌, ◌<◌, ◌+◌, List, length, refl, sym, ap, subst, ◌∙◌, arith, rules, map, get_or, slice_set}
use Rattle.std.proofs.Math.ListN.{length-set}
use Rattle.memory_station.specs.declared.rows.Row.{Row}
use Rattle.memory_station.specs.declared.rows.Piece.{Piece}
use Rattle.memory_station.specs.declared.rows.Mark.{Mark}
use Rattle.memory_station.specs.declared.rows.Mark.TheVariants.{Closed, Finished, SeemsReady, Refused, Gave, GaveOdd}
use Rattle.memory_station.specs.HeldRows.{HeldTable, HeldRow, held_at, marked}
use Rattle.memory_station.specs.Rows.{held_row, row_marked, IsRowSound}
use Rattle.memory_station.proofs.Tables.{held_at-set, held_at-above, AreNumbered-set, AreSound-set, number-get, sound-get}
use Rattle.memory_station.proofs.table.Table.mark.Goals as goal

-- a mark in memory is that mark
held-marked : (ps : List Piece) (m : Mark) (l : Row) → held_row ps (row_marked m l) ≡ marked m (held_row ps l)
held-marked ps Closed l = refl
held-marked ps Finished l = refl
held-marked ps SeemsReady l = refl
held-marked ps Refused l = refl
held-marked ps Gave l = refl
held-marked ps GaveOdd l = refl

number-marked : (m : Mark) (l : Row) → (row_marked m l).number ≡ l.number
number-marked Closed l = refl
number-marked Finished l = refl
number-marked SeemsReady l = refl
number-marked Refused l = refl
number-marked Gave l = refl
number-marked GaveOdd l = refl

sound-marked : (ps : List Piece) (m : Mark) (l : Row) → IsRowSound ps l → IsRowSound ps (row_marked m l)
sound-marked ps Closed l h = record { from = h.from; inside = h.inside }
sound-marked ps Finished l h = record { from = h.from; inside = h.inside }
sound-marked ps SeemsReady l h = record { from = h.from; inside = h.inside }
sound-marked ps Refused l h = record { from = h.from; inside = h.inside }
sound-marked ps Gave l h = record { from = h.from; inside = h.inside }
sound-marked ps GaveOdd l h = record { from = h.from; inside = h.inside }

pub invariant_of-self : goal.invariant_of-self
invariant_of-self c =
    let rows = c.self.inside.rows.items in
    let ps = c.self.inside.pieces.items in
    let x = c.index-row.result.now in
    let i = c.args.socket in
    let k : i < length rows = search rules in
    let g : x ≡ get_or rows i x = c.index-row.ensures in
    let n : x.number ≡ i = number-get 0 i rows x c.self.invariant.numbered k g ∙ omega arith in
    let s : IsRowSound ps x = sound-get ps i rows x c.self.invariant.sound k g in
    let y = c.marked.result in
    let is : y ≡ row_marked c.args.mark x = c.marked.ensures in
    let yn : y.number ≡ i = ap (λ (v : Row). v.number) is ∙ (number-marked c.args.mark x ∙ n) in
    let P : Row → Type 0 = λ v. IsRowSound ps v in
    record {
      numbered = AreNumbered-set 0 i rows y c.self.invariant.numbered (yn ∙ omega arith);
      sound = AreSound-set ps i rows y c.self.invariant.sound (subst P (sym is) (sound-marked ps c.args.mark x s));
      few = omega (arith, length-set {A = Row}, c.self.invariant.few);
      rows = omega (arith, length-set {A = Row}, c.self.invariant.rows);
      pieces = c.self.invariant.pieces;
    }

pub returns-then-index-len : goal.returns-then-index-len
returns-then-index-len c =
    let rows = c.self.inside.rows.items in
    let ps = c.self.inside.pieces.items in
    let x = c.index-row.result.now in
    let i = c.args.socket in
    let k : i < length rows = search rules in
    let g : x ≡ get_or rows i x = c.index-row.ensures in
    let y = c.marked.result in
    let is : y ≡ row_marked c.args.mark x = c.marked.ensures in
    let e : held_row ps y ≡ marked c.args.mark (held_row ps x) = ap (held_row ps) is ∙ held-marked ps c.args.mark x in
    let z : 0 + i ≡ i = omega arith in
    let all : map (held_row ps) (slice_set rows i y) ≡ held_at i (marked c.args.mark) (map (held_row ps) rows) =
    held_at-set ps (marked c.args.mark) 0 i rows x y c.self.invariant.numbered k g e ∙ ap (λ n. held_at n (marked c.args.mark) (map (held_row ps) rows)) z in
    ap (λ (ls : List HeldRow). record { rows = ls; pieces = length ps; brought = c.self.inside.brought; row_room = c.self.inside.row_room }) all
    ∙ ap (λ (b : HeldTable). record b { rows = held_at i (marked c.args.mark) b.rows }) c.self.view_is

pub returns-else-index-len : goal.returns-else-index-len
returns-else-index-len c =
    let rows = c.self.inside.rows.items in
    let ps = c.self.inside.pieces.items in
    let i = c.args.socket in
    let k0 : length rows ≤ i = search rules in
    let k : 0 + length rows ≤ i = omega arith in
    let all : held_at i (marked c.args.mark) (map (held_row ps) rows) ≡ map (held_row ps) rows = held_at-above ps (marked c.args.mark) 0 i rows c.self.invariant.numbered k in
    sym c.self.view_is ∙ (ap (λ (ls : List HeldRow). record { rows = ls; pieces = length ps; brought = c.self.inside.brought; row_room = c.self.inside.row_room }) (sym all)
    ∙ ap (λ (b : HeldTable). record b { rows = held_at i (marked c.args.mark) b.rows }) c.self.view_is)
