-- WriteAll: sockets are written until nothing is due, or no more can be given.
use Rattle.std.proofs.Common.{◌≡◌, ℕ, ◌+◌, ◌<◌, ◌≤◌, Bool, true, false, refl, sym, ap, subst, ◌∙◌, List, arith, length}
use Rattle.std.specs.Prelude.{Some, not, ◌==◌, slice_get}
use Rattle.std.proofs.lemmas.Bool.{eqb-true, eqb-false}
use Rattle.std.proofs.lemmas.Option.{slice_get_within}
use Rattle.definitions.specs.Honest.{made_count}
use Rattle.socket_station.specs.Items.{Item}
use Rattle.socket_lines.specs.declared.line.Line.{Line}
use Rattle.loop_rules.specs.Tables.{Table}
use Rattle.loop_rules.specs.Licence.{all_is_shut, is_served_out}
use Rattle.loop_rules.specs.Told.{Differ}
use Rattle.socket_table.specs.Finding.{IsAt}
use Rattle.socket_table.specs.Staying.{MilderLine, Milder}
use Rattle.socket_table.proofs.Milder.{milder_shut}
use Rattle.ready_loop.specs.States.{LoopState}
use Rattle.ready_loop.specs.Serving.{IsServing, Serves, wants_write, ServedAt, ServedBeside, Writes, WritesOut, WritesAll}
use Rattle.ready_loop.specs.Handling.{SameSockets}
use Rattle.ready_loop.proofs.Places.{there, two_sockets, all_places, sockets_same}
use Rattle.ready_loop.proofs.Served.{serves_still, serves_then, serving_on, lines_differ}

-- the sockets stand in the same order
pub milder_sockets : (t u : Table) → Milder t u → SameSockets t u
milder_sockets t u w = sockets_same MilderLine (λ l m k. k.socket) t.lines u.lines w.lines

made_same : (before after : List Item) (l m : LoopState) → Serves before after l m → made_count m.peer.entries ≡ made_count l.peer.entries
made_same before after l m w = ap (λ (x : LoopState). made_count x.peer.entries) w.same

beside_then : (s : ℕ) (before after : List Item) (l m n : LoopState) → Serves before after l m → ServedBeside s l m → ServedBeside s m n → ServedBeside s l n
beside_then s before after l m n w a b k x y g h differs served =
    let z = there l.table m.table k x (milder_sockets l.table m.table w.milder) g in
    b k z.0 y z.1 h (λ q. differs (sym z.2 ∙ q)) (a k x z.0 g z.1 differs served)

-- ---- one socket

pub record WritingOut (s : ℕ) (before items : List Item) (l m : LoopState) : Type 0 where
  pub serves : Serves before items l m
  pub serving : IsServing items m
  pub shut : all_is_shut m.table ≡ true
  pub beside : ServedBeside s l m

pub writing_first : (s : ℕ) (items : List Item) (l : LoopState) → IsServing items l → all_is_shut l.table ≡ true → WritingOut s items items l l
writing_first s items l w shut = record {
  serves = serves_still items l w.told;
  serving = w;
  shut = shut;
  beside = λ k x y g h differs served. subst (λ (z : Line). is_served_out (made_count l.peer.entries) l.table z ≡ true) (let e : Some x ≡ Some y = sym g ∙ h in let q : x ≡ y = cc in q) served;
}

pub writing_on : (k s : ℕ) (before items after : List Item) (l m n : LoopState) → WritingOut s before items l m → Writes k s items after m n → WritingOut s before after l n
writing_on k s before items after l m n w r = record {
  serves = serves_then before items after l m n w.serves r.serves;
  serving = serving_on items after m n w.serving r.serves;
  shut = milder_shut m.table n.table r.serves.milder w.shut;
  beside = beside_then s before items l m n w.serves w.beside r.beside;
}

served_of : (b : Bool) → not b ≡ false → b ≡ true
served_of true e = refl
served_of false e = absurd (cc)

pub writing_ends : (k s : ℕ) (before items : List Item) (l m : LoopState) → WritingOut s before items l m → ((x : Line) → slice_get m.table.lines k ≡ Some x → wants_write (made_count m.peer.entries) m.table x ≡ false) → WritesOut k s before items l m
writing_ends k s before items l m w none = record { serves = w.serves; beside = w.beside; out = λ x g. served_of (is_served_out (made_count m.peer.entries) m.table x) (none x g) }

-- ---- all of them

pub record WritingAll (i : ℕ) (before items : List Item) (l m : LoopState) : Type 0 where
  pub serves : Serves before items l m
  pub serving : IsServing items m
  pub shut : all_is_shut m.table ≡ true
  pub out : (k : ℕ) → k < i → ServedAt m k

pub writing_all_first : (items : List Item) (l : LoopState) → IsServing items l → all_is_shut l.table ≡ true → WritingAll 0 items items l l
writing_all_first items l w shut = record { serves = serves_still items l w.told; serving = w; shut = shut; out = λ k lt. absurd (omega (arith, lt)) }

pub writing_all_on : (i s : ℕ) (before items after : List Item) (l m n : LoopState) → WritingAll i before items l m → IsAt m.table i s → WritesOut i s items after m n → WritingAll (i + 1) before after l n
writing_all_on i s before items after l m n w at r = record {
  serves = serves_then before items after l m n w.serves r.serves;
  serving = serving_on items after m n w.serving r.serves;
  shut = milder_shut m.table n.table r.serves.milder w.shut;
  out = λ k lt. go k lt (k == i) refl;
}
  where
    differ : Differ m.table.lines
    differ = lines_differ items m w.serving.told w.serving.steady.idle

    earlier : (k : ℕ) → k < i → ServedAt n k
    earlier k lt y h =
        let x = there n.table m.table k y (sym (milder_sockets m.table n.table r.serves.milder)) h in
        r.beside k x.0 y x.1 h (λ e. two_sockets m.table.lines k i x.0 at.0 differ x.1 at.1 (λ q. (let z = q in omega (arith, z, lt))) (e ∙ sym at.2)) (w.out k lt x.0 x.1)

    go : (k : ℕ) → k < i + 1 → (b : Bool) → (k == i) ≡ b → ServedAt n k
    go k lt true e y h = r.out y (ap (slice_get n.table.lines) (sym (eqb-true k i e)) ∙ h)
    go k lt false e y h = earlier k (let q = eqb-false k i e in omega (arith, q, lt)) y h

pub writing_all_ends : (i : ℕ) (before items : List Item) (l m : LoopState) → WritingAll i before items l m → length m.table.lines ≤ i → WritesAll before items l m
writing_all_ends i before items l m w le = record {
  serves = w.serves;
  given = all_places (is_served_out (made_count m.peer.entries) m.table) m.table.lines (λ k x g. w.out k (let lt = slice_get_within m.table.lines k x g in omega (arith, lt, le)) x g);
}
