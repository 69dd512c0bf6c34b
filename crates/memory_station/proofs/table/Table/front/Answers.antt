use Rattle.std.proofs.Common.{◌≡◌, ◌≤◌, ◌<◌, ◌+◌, ◌-◌, [], length, sym, ap, ◌∙◌, arith, rules, drop, true, false, length-drop}
use Rattle.memory_station.specs.declared.rows.Front.TheVariants as F
use Rattle.memory_station.specs.HeldRows.{HeldTable, row_in, front_of, front_with}
use Rattle.memory_station.specs.Rows.{held_row, raw_pieces, cut_front}
use Rattle.memory_station.proofs.Tables.{row_in-place, row_in-above, sound-get}
use Rattle.memory_station.proofs.Fronts.{below-there, front-facts, front-bytes}
use Rattle.memory_station.proofs.table.Table.front.Goals as goal

pub returns-then-index-len-clause-front : goal.returns-then-index-len-clause-front
returns-then-index-len-clause-front c =
    let rows = c.self.inside.rows.items in
    let ps = c.self.inside.pieces.items in
    let i = c.args.socket in
    let k0 : length rows ≤ i = search rules in
    let k : 0 + length rows ≤ i = omega arith in
    sym (ap front_of (row_in-above ps 0 i rows c.self.invariant.numbered k)) ∙ ap (λ (b : HeldTable). front_of (row_in b.rows i)) c.self.view_is

pub index-requires : goal.index-requires
index-requires c =
    let k = below-there c.self.inside.pieces.items c.in-Some.place c.in-Some.ensures.piece c.in-Some.ensures.there in
    search rules

pub overflow_sub-result : goal.overflow_sub-result
overflow_sub-result c =
    let rows = c.self.inside.rows.items in
    let ps = c.self.inside.pieces.items in
    let i = c.args.socket in
    let l = c.index-row.result.now in
    let k : i < length rows = search rules in
    let s = sound-get ps i rows l c.self.invariant.sound k c.index-row.ensures in
    let f = front-facts ps l c.in-Some.place c.index.result.now s c.in-Some.ensures c.index.ensures in
    let a = f.at in
    let n : c.len-in-Some.result ≡ length c.index.result.now.bytes = search rules in
    omega (arith, a, n)

pub returns-in-Some-clause-front : goal.returns-in-Some-clause-front
returns-in-Some-clause-front c =
    let rows = c.self.inside.rows.items in
    let ps = c.self.inside.pieces.items in
    let i = c.args.socket in
    let l = c.index-row.result.now in
    let x = c.index.result.now in
    let k : i < length rows = search rules in
    let s = sound-get ps i rows l c.self.invariant.sound k c.index-row.ensures in
    let f = front-facts ps l c.in-Some.place x s c.in-Some.ensures c.index.ensures in
    let n : c.len-in-Some.result ≡ length x.bytes = search rules in
    let e : front_with (held_row ps l).pieces l.is_finished ≡ F.Bytes (length (drop l.at x.bytes)) = ap (λ r. front_with r l.is_finished) (front-bytes ps l c.in-Some.place x f) in
    let m : c.len-in-Some.result - l.at ≡ length (drop l.at x.bytes) = ap (λ j. j - l.at) n ∙ sym (length-drop l.at x.bytes) in
    ap (λ j. F.Bytes j) m ∙ (sym e ∙ (sym (ap front_of (row_in-place ps i rows l c.self.invariant.numbered k c.index-row.ensures)) ∙ ap (λ (b : HeldTable). front_of (row_in b.rows i)) c.self.view_is))

pub returns-then-row-clause-front : goal.returns-then-row-clause-front
returns-then-row-clause-front c =
    let rows = c.self.inside.rows.items in
    let ps = c.self.inside.pieces.items in
    let i = c.args.socket in
    let l = c.index-row.result.now in
    let k : i < length rows = search rules in
    let t : l.is_finished ≡ true = c.if-row.true in
    let raw : raw_pieces ps l ≡ [] = c.in-None.ensures in
    let e : front_with (cut_front l.at (raw_pieces ps l)) l.is_finished ≡ F.Ended = ap (λ r. front_with (cut_front l.at r) l.is_finished) raw ∙ ap (λ b. front_with [] b) t in
    sym e ∙ (sym (ap front_of (row_in-place ps i rows l c.self.invariant.numbered k c.index-row.ensures)) ∙ ap (λ (b : HeldTable). front_of (row_in b.rows i)) c.self.view_is)

pub returns-else-row-clause-front : goal.returns-else-row-clause-front
returns-else-row-clause-front c =
    let rows = c.self.inside.rows.items in
    let ps = c.self.inside.pieces.items in
    let i = c.args.socket in
    let l = c.index-row.result.now in
    let k : i < length rows = search rules in
    let t : l.is_finished ≡ false = c.if-row.false in
    let raw : raw_pieces ps l ≡ [] = c.in-None.ensures in
    let e : front_with (cut_front l.at (raw_pieces ps l)) l.is_finished ≡ F.NotYet = ap (λ r. front_with (cut_front l.at r) l.is_finished) raw ∙ ap (λ b. front_with [] b) t in
    sym e ∙ (sym (ap front_of (row_in-place ps i rows l c.self.invariant.numbered k c.index-row.ensures)) ∙ ap (λ (b : HeldTable). front_of (row_in b.rows i)) c.self.view_is)

pub returns-in-Some-clause-some : goal.returns-in-Some-clause-some
returns-in-Some-clause-some c =
    let rows = c.self.inside.rows.items in
    let ps = c.self.inside.pieces.items in
    let i = c.args.socket in
    let l = c.index-row.result.now in
    let x = c.index.result.now in
    let k : i < length rows = search rules in
    let s = sound-get ps i rows l c.self.invariant.sound k c.index-row.ensures in
    let f = front-facts ps l c.in-Some.place x s c.in-Some.ensures c.index.ensures in
    let a = f.at in
    let n : c.len-in-Some.result ≡ length x.bytes = search rules in
    omega (arith, a, n)
