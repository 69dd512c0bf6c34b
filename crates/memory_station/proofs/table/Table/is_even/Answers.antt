use Rattle.std.proofs.Common.{◌≤◌, ◌<◌, ◌+◌, length, sym, ap, ◌∙◌, arith, rules}
use Rattle.memory_station.specs.HeldRows.{HeldTable, HeldRow, row_in}
use Rattle.memory_station.proofs.Tables.{row_in-place, row_in-above}
use Rattle.memory_station.proofs.table.Table.is_even.Goals as goal

pub returns-then-index-len : goal.returns-then-index-len
returns-then-index-len c =
    let rows = c.self.inside.rows.items in
    let ps = c.self.inside.pieces.items in
    let i = c.args.socket in
    let k : i < length rows = search rules in
    ap (λ (l : HeldRow). l.is_even) (sym (row_in-place ps i rows c.index.result.now c.self.invariant.numbered k c.index.ensures)) ∙ ap (λ (b : HeldTable). (row_in b.rows i).is_even) c.self.view_is

pub returns-else-index-len : goal.returns-else-index-len
returns-else-index-len c =
    let rows = c.self.inside.rows.items in
    let ps = c.self.inside.pieces.items in
    let i = c.args.socket in
    let k0 : length rows ≤ i = search rules in
    let k : 0 + length rows ≤ i = omega arith in
    ap (λ (l : HeldRow). l.is_even) (sym (row_in-above ps 0 i rows c.self.invariant.numbered k)) ∙ ap (λ (b : HeldTable). (row_in b.rows i).is_even) c.self.view_is
