use Rattle.std.proofs.Common.{◌≡◌, ◌≤◌, ◌<◌, ◌+◌, ◌-◌, ◌^◌, [], ℕ, List, length, sym, ap, ◌∙◌, arith, rules, map, slice_set, take, drop, min, length-drop}
use Rattle.std.proofs.Math.ListN.{length-set}
use Rattle.memory_station.specs.declared.rows.Row.{Row}
use Rattle.memory_station.specs.HeldRows.{HeldTable, HeldRow, held_at, row_in, front_bytes, first_of_pieces, taken, pieces_behind}
use Rattle.memory_station.specs.Rows.{held_row, raw_pieces, cut_front}
use Rattle.memory_station.proofs.Tables.{held_at-same, held_at-place, row_in-place, row_in-above, held_at-above, AreNumbered-set, AreSound-set, number-get, sound-get}
use Rattle.memory_station.proofs.Fronts.{taken-facts, below-there, front-facts, front-bytes}
use Rattle.memory_station.proofs.table.Table.take.Goals as goal

pub returns-then-index-len-clause-count : goal.returns-then-index-len-clause-count
returns-then-index-len-clause-count c =
    let rows = c.self.inside.rows.items in
    let ps = c.self.inside.pieces.items in
    let i = c.args.socket in
    let k0 : length rows ≤ i = search rules in
    let k : 0 + length rows ≤ i = omega arith in
    let e : length (front_bytes (row_in c.args.self.now.rows i)) ≡ 0 = sym (ap (λ (b : HeldTable). length (front_bytes (row_in b.rows i))) c.self.view_is) ∙ ap (λ l. length (front_bytes l)) (row_in-above ps 0 i rows c.self.invariant.numbered k) in
    rw e (omega arith)

pub returns-then-index-len-clause-after : goal.returns-then-index-len-clause-after
returns-then-index-len-clause-after c =
    let rows = c.self.inside.rows.items in
    let ps = c.self.inside.pieces.items in
    let i = c.args.socket in
    let k0 : length rows ≤ i = search rules in
    let k : 0 + length rows ≤ i = omega arith in
    let all : held_at i (taken 0) (map (held_row ps) rows) ≡ map (held_row ps) rows = held_at-above ps (taken 0) 0 i rows c.self.invariant.numbered k in
    sym c.self.view_is ∙ (ap (λ (ls : List HeldRow). record { rows = ls; pieces = length ps; brought = c.self.inside.brought; row_room = c.self.inside.row_room }) (sym all)
    ∙ ap (λ (b : HeldTable). record b { rows = held_at i (taken 0) b.rows }) c.self.view_is)

pub index-requires : goal.index-requires
index-requires c =
    let k = below-there c.self.inside.pieces.items c.in-Some.place c.in-Some.ensures.piece c.in-Some.ensures.there in
    search rules

pub returns-in-None-clause-count : goal.returns-in-None-clause-count
returns-in-None-clause-count c =
    let rows = c.self.inside.rows.items in
    let ps = c.self.inside.pieces.items in
    let i = c.args.socket in
    let l = c.index-row.result.now in
    let k : i < length rows = search rules in
    let raw : raw_pieces ps l ≡ [] = c.in-None.ensures in
    let e : length (front_bytes (row_in c.args.self.now.rows i)) ≡ 0 =
    sym (ap (λ (b : HeldTable). length (front_bytes (row_in b.rows i))) c.self.view_is)
    ∙ (ap (λ l. length (front_bytes l)) (row_in-place ps i rows l c.self.invariant.numbered k c.index-row.ensures)
    ∙ ap (λ r. length (first_of_pieces (cut_front l.at r))) raw) in
    rw e (omega arith)

pub returns-in-None-clause-after : goal.returns-in-None-clause-after
returns-in-None-clause-after c =
    let rows = c.self.inside.rows.items in
    let ps = c.self.inside.pieces.items in
    let i = c.args.socket in
    let l = c.index-row.result.now in
    let k : i < length rows = search rules in
    let raw : raw_pieces ps l ≡ [] = c.in-None.ensures in
    let none : (held_row ps l).pieces ≡ [] = ap (cut_front l.at) raw in
    let e : taken 0 (held_row ps l) ≡ held_row ps l = ap (λ (r : List (List ℕ)). record (held_row ps l) { pieces = r }) (ap (pieces_behind 0) none ∙ sym none) in
    let all : held_at i (taken 0) (map (held_row ps) rows) ≡ map (held_row ps) rows = held_at-same ps (taken 0) i rows l c.self.invariant.numbered k c.index-row.ensures e in
    sym c.self.view_is ∙ (ap (λ (ls : List HeldRow). record { rows = ls; pieces = length ps; brought = c.self.inside.brought; row_room = c.self.inside.row_room }) (sym all)
    ∙ ap (λ (b : HeldTable). record b { rows = held_at i (taken 0) b.rows }) c.self.view_is)

pub behind-requires-clause-place : goal.behind-requires-clause-place
behind-requires-clause-place c =
    let k : c.in-Some.place < length c.self.inside.pieces.items = below-there c.self.inside.pieces.items c.in-Some.place c.in-Some.ensures.piece c.in-Some.ensures.there in
    search rules

pub overflow_sub-left : goal.overflow_sub-left
overflow_sub-left c =
    let rows = c.self.inside.rows.items in
    let ps = c.self.inside.pieces.items in
    let i = c.args.socket in
    let l = c.index-row.result.now in
    let x = c.index.result.now in
    let k : i < length rows = search rules in
    let s = sound-get ps i rows l c.self.invariant.sound k c.index-row.ensures in
    let f = front-facts ps l c.in-Some.place x s c.in-Some.ensures c.index.ensures in
    let a = f.at in
    let e : length c.as_slice-piece.result.now ≡ length x.bytes = ap length c.as_slice-piece.ensures in
    omega (arith, a, e)

pub copy_some-count-requires : goal.copy_some-count-requires
copy_some-count-requires c =
    let rows = c.self.inside.rows.items in
    let ps = c.self.inside.pieces.items in
    let i = c.args.socket in
    let l = c.index-row.result.now in
    let x = c.index.result.now in
    let k : i < length rows = search rules in
    let s = sound-get ps i rows l c.self.invariant.sound k c.index-row.ensures in
    let f = front-facts ps l c.in-Some.place x s c.in-Some.ensures c.index.ensures in
    let a = f.at in
    let e : length c.as_slice-piece.result.now ≡ length x.bytes = ap length c.as_slice-piece.ensures in
    omega (arith, a, e)

pub behind-requires-clause-at : goal.behind-requires-clause-at
behind-requires-clause-at c =
    let rows = c.self.inside.rows.items in
    let ps = c.self.inside.pieces.items in
    let i = c.args.socket in
    let l = c.index-row.result.now in
    let x = c.index.result.now in
    let k : i < length rows = search rules in
    let s = sound-get ps i rows l c.self.invariant.sound k c.index-row.ensures in
    let f = front-facts ps l c.in-Some.place x s c.in-Some.ensures c.index.ensures in
    let a = f.at in
    let e : length c.as_slice-piece.result.now ≡ length x.bytes = ap length c.as_slice-piece.ensures in
    let big : length c.as_slice-piece.result.now < 2 ^ 63 = search rules in
    omega (arith, a, e, big)

pub invariant_of-self : goal.invariant_of-self
invariant_of-self c =
    let rows = c.self.inside.rows.items in
    let ps = c.self.inside.pieces.items in
    let i = c.args.socket in
    let l = c.index-row.result.now in
    let x = c.index.result.now in
    let bytes = c.as_slice-piece.result.now in
    let k : i < length rows = search rules in
    let s = sound-get ps i rows l c.self.invariant.sound k c.index-row.ensures in
    let f = front-facts ps l c.in-Some.place x s c.in-Some.ensures c.index.ensures in
    let left : length bytes - l.at ≡ length (drop l.at x.bytes) = sym (length-drop l.at bytes) ∙ ap (λ b. length (drop l.at b)) c.as_slice-piece.ensures in
    let y = c.behind.result in
    let t = taken-facts ps l c.in-Some.place c.copy_some-count.result (length bytes - l.at) x y s f left c.behind.ensures in
    let n : y.number ≡ 0 + i = t.number ∙ number-get 0 i rows l c.self.invariant.numbered k c.index-row.ensures in
    record {
      numbered = AreNumbered-set 0 i rows y c.self.invariant.numbered n;
      sound = AreSound-set ps i rows y c.self.invariant.sound t.sound;
      few = omega (arith, length-set {A = Row}, c.self.invariant.few);
      rows = omega (arith, length-set {A = Row}, c.self.invariant.rows);
      pieces = c.self.invariant.pieces;
    }

pub returns-in-Some-clause-count : goal.returns-in-Some-clause-count
returns-in-Some-clause-count c =
    let rows = c.self.inside.rows.items in
    let ps = c.self.inside.pieces.items in
    let i = c.args.socket in
    let l = c.index-row.result.now in
    let x = c.index.result.now in
    let bytes = c.as_slice-piece.result.now in
    let k : i < length rows = search rules in
    let s = sound-get ps i rows l c.self.invariant.sound k c.index-row.ensures in
    let f = front-facts ps l c.in-Some.place x s c.in-Some.ensures c.index.ensures in
    let rest : drop l.at bytes ≡ drop l.at x.bytes = ap (drop l.at) c.as_slice-piece.ensures in
    let front : front_bytes (row_in c.args.self.now.rows i) ≡ drop l.at x.bytes =
    sym (ap (λ (b : HeldTable). front_bytes (row_in b.rows i)) c.self.view_is)
    ∙ (ap front_bytes (row_in-place ps i rows l c.self.invariant.numbered k c.index-row.ensures) ∙ ap first_of_pieces (front-bytes ps l c.in-Some.place x f)) in
    c.copy_some-count.ensures.count ∙ ap (λ r. min (length c.args.buf.now) (length r)) (rest ∙ sym front)

pub returns-in-Some-clause-bytes : goal.returns-in-Some-clause-bytes
returns-in-Some-clause-bytes c =
    let rows = c.self.inside.rows.items in
    let ps = c.self.inside.pieces.items in
    let i = c.args.socket in
    let l = c.index-row.result.now in
    let x = c.index.result.now in
    let bytes = c.as_slice-piece.result.now in
    let k : i < length rows = search rules in
    let s = sound-get ps i rows l c.self.invariant.sound k c.index-row.ensures in
    let f = front-facts ps l c.in-Some.place x s c.in-Some.ensures c.index.ensures in
    let rest : drop l.at bytes ≡ drop l.at x.bytes = ap (drop l.at) c.as_slice-piece.ensures in
    let front : front_bytes (row_in c.args.self.now.rows i) ≡ drop l.at x.bytes =
    sym (ap (λ (b : HeldTable). front_bytes (row_in b.rows i)) c.self.view_is)
    ∙ (ap front_bytes (row_in-place ps i rows l c.self.invariant.numbered k c.index-row.ensures) ∙ ap first_of_pieces (front-bytes ps l c.in-Some.place x f)) in
    c.copy_some-count.ensures.bytes ∙ ap (λ r. take c.copy_some-count.result r) (rest ∙ sym front)

pub returns-in-Some-clause-after : goal.returns-in-Some-clause-after
returns-in-Some-clause-after c =
    let rows = c.self.inside.rows.items in
    let ps = c.self.inside.pieces.items in
    let i = c.args.socket in
    let l = c.index-row.result.now in
    let x = c.index.result.now in
    let bytes = c.as_slice-piece.result.now in
    let k : i < length rows = search rules in
    let s = sound-get ps i rows l c.self.invariant.sound k c.index-row.ensures in
    let f = front-facts ps l c.in-Some.place x s c.in-Some.ensures c.index.ensures in
    let left : length bytes - l.at ≡ length (drop l.at x.bytes) = sym (length-drop l.at bytes) ∙ ap (λ b. length (drop l.at b)) c.as_slice-piece.ensures in
    let y = c.behind.result in
    let n = c.copy_some-count.result in
    let t = taken-facts ps l c.in-Some.place n (length bytes - l.at) x y s f left c.behind.ensures in
    let all : map (held_row ps) (slice_set rows i y) ≡ held_at i (taken n) (map (held_row ps) rows) =
    held_at-place ps (taken n) i rows l y c.self.invariant.numbered k c.index-row.ensures t.held in
    ap (λ (ls : List HeldRow). record { rows = ls; pieces = length ps; brought = c.self.inside.brought; row_room = c.self.inside.row_room }) all
    ∙ ap (λ (b : HeldTable). record b { rows = held_at i (taken n) b.rows }) c.self.view_is
