-- Taken: bytes that come on a socket, step by step.
use Rattle.std.proofs.Common.{◌≡◌, ℕ, ◌+◌, ◌<◌, ◌≤◌, Bool, true, false, refl, sym, ap, subst, ◌∙◌, List, [], ◌∷◌, arith, length}
use Rattle.std.specs.Prelude.{Option, Some, None, ◌==◌, find, map, slice_get, if◌then◌else◌}
use Rattle.std.specs.List.{fold}
use Rattle.wire_frames.specs.Streams.{Given, given_of}
use Rattle.socket_lines.specs.declared.line.Line.{Line}
use Rattle.socket_lines.specs.declared.seat.Seat.{Seat}
use Rattle.socket_lines.specs.Seats as S
use Rattle.socket_lines.specs.Lines.{doomed, unnamed_room}
use Rattle.loop_rules.specs.Tables.{Table, line_of, seat_of, in_seats, at_line, at_seat, room_by, room_on, room_by_seat}
use Rattle.loop_rules.specs.Hearing.{Hearer, heard, counted, read_on, read_at, heard_all, took_with, took_on}
use Rattle.socket_table.specs.Finding.{IsAt, IsSeatAt, IsNamedSeat}
use Rattle.socket_table.specs.Sound.{IsFitLine, spent_by, spent_of}
use Rattle.wire_frames.specs.declared.frames.Frame.{Frame}
use Rattle.loop_rules.proofs.Alike.{alike_at, alike_frames, read_same}
use Rattle.socket_table.proofs.Heard.{Linked, linked_seats, at_alike}
use Rattle.socket_table.proofs.HearingKeeps.{counted_lines}
use Rattle.socket_table.proofs.Waiting.{counted_waits}

-- ---- whose bytes they are

pub named_is : (t : Table) (n : Option ℕ) (f : ℕ × ℕ) → IsNamedSeat t n (Some f) → (n ≡ Some f.1) × IsSeatAt t.seats f.1 (Some f.0) × (seat_of t f.1 ≡ slice_get t.seats f.0)
named_is t None f e = absurd (cc)
named_is t (Some q) f e = (
  ap (λ (x : ℕ). Some x) (sym e.0),
  subst (λ (x : ℕ). IsSeatAt t.seats x (Some f.0)) (sym e.0) e.1,
  subst (λ (x : ℕ). seat_of t x ≡ slice_get t.seats f.0) (sym e.0) e.2,
)

pub named_by : (t : Table) (n : Option ℕ) (o : Option (ℕ × ℕ)) (f : ℕ × ℕ) → IsNamedSeat t n o → o ≡ Some f → IsNamedSeat t n (Some f)
named_by t n o f w e = subst (IsNamedSeat t n) e w

-- where there is no such seat, there is no name or no room
pub no_name : (t : Table) (l : Line) (o : Option (ℕ × ℕ)) (count : ℕ) → IsNamedSeat t l.name o → o ≡ None → 0 < count → count ≤ room_on t l → l.name ≡ None
no_name t l o count w e some room = go l.name (subst (IsNamedSeat t l.name) e w) room refl
  where
    go : (n : Option ℕ) → IsNamedSeat t n None → count ≤ room_by t l n → l.name ≡ n → l.name ≡ None
    go None x r q = q
    go (Some p) x r q =
        let none : count ≤ room_by_seat None = subst (λ (c : Option Seat). count ≤ room_by_seat c) x r in
        absurd (omega (arith, some, none))

pub seat_room : (t : Table) (l : Line) (q k count : ℕ) (c : Seat) → l.name ≡ Some q → seat_of t q ≡ slice_get t.seats k → slice_get t.seats k ≡ Some c → count ≤ room_on t l → count ≤ S.room_of c
seat_room t l q k count c n e g room =
    subst (λ (o : Option Seat). count ≤ room_by_seat o) (e ∙ g) (subst (λ (o : Option ℕ). count ≤ room_by t l o) n room)

pub counted_named : (u t : Table) (l : Line) (q count : ℕ) → l.name ≡ Some q → u ≡ at_seat q (S.spends count) t → u ≡ counted l.name count t
counted_named u t l q count n e = e ∙ sym (ap (λ (o : Option ℕ). counted o count t) n)

pub counted_none : (t : Table) (l : Line) (count : ℕ) → l.name ≡ None → t ≡ counted l.name count t
counted_none t l count n = sym (ap (λ (o : Option ℕ). counted o count t) n)

-- what is spent of the player then
pub spent_more : (q count : ℕ) (cs : List Seat) (c : Seat) → find (λ d. d.link.player == q) cs ≡ Some c → spent_of (in_seats q (S.spends count) cs) (Some q) ≡ c.spent + count
spent_more q count [] c e = absurd (cc)
spent_more q count (d ∷ ds) c e = go (d.link.player == q) refl e (spent_more q count ds c)
  where
    go : (b : Bool) → (d.link.player == q) ≡ b → (if b then Some d else find (λ x. x.link.player == q) ds) ≡ Some c →
        (find (λ x. x.link.player == q) ds ≡ Some c → spent_of (in_seats q (S.spends count) ds) (Some q) ≡ c.spent + count) →
        spent_by (find (λ x. x.link.player == q) ((if b then S.spends count d else d) ∷ in_seats q (S.spends count) ds)) ≡ c.spent + count
    go true w x more =
        ap (λ (b : Bool). spent_by (if b then Some (S.spends count d) else find (λ y. y.link.player == q) (in_seats q (S.spends count) ds))) w
        ∙ ap (λ (y : Seat). y.spent + count) (let z : d ≡ c = cc in z)
    go false w x more =
        ap (λ (b : Bool). spent_by (if b then Some d else find (λ y. y.link.player == q) (in_seats q (S.spends count) ds))) w ∙ more x

pub reads_on : (t u : Table) (l : Line) (q k count : ℕ) (c : Seat) → IsFitLine t.seats l → l.name ≡ Some q → seat_of t q ≡ slice_get t.seats k → slice_get t.seats k ≡ Some c →
    u ≡ at_seat q (S.spends count) t → l.reader.place + count ≤ l.taken + spent_of u.seats (Some q)
reads_on t u l q k count c f n e g w =
    let more = spent_more q count t.seats c (e ∙ g) in
    let new = ap (λ (x : Table). spent_of x.seats (Some q)) w in
    let old = ap (λ (o : Option Seat). spent_by o) (e ∙ g) in
    let named = ap (spent_of t.seats) n in
    let read = f.read in
    omega (arith, more, new, old, named, read)

-- ---- what stays

pub counted_linked : (o : Option ℕ) (count : ℕ) (t : Table) → Linked t.seats (counted o count t).seats
counted_linked None count t = refl
counted_linked (Some q) count t = linked_seats q (S.spends count) (λ c. refl) t.seats

-- counting is apart from reading
pub counted_apart : (o : Option ℕ) (count s : ℕ) (f : Line → Line) (t : Table) → at_line s f (counted o count t) ≡ counted o count (at_line s f t)
counted_apart None count s f t = refl
counted_apart (Some q) count s f t = refl

-- ---- all of it

-- the table behind the bytes, by what was found in them
pub took_it : (h : Hearer) (v u w x : Table) (s : ℕ) (bytes : List ℕ) (l : Line) → line_of v s ≡ Some l → u ≡ counted l.name (length bytes) v →
    w ≡ at_line s (read_on (length bytes) (given_of l.reader bytes)) u → (bad : Bool) → bad ≡ (given_of l.reader bytes).reader.bad →
    x ≡ (if bad then at_line s doomed (fold (heard h s) w (given_of l.reader bytes).frames) else fold (heard h s) w (given_of l.reader bytes).frames) → x ≡ took_on h s bytes v
took_it h v u w x s bytes l e c r bad b d =
    let g = given_of l.reader bytes in
    let read : w ≡ read_at s (length bytes) g l v = r ∙ ap (at_line s (read_on (length bytes) g)) c ∙ counted_apart l.name (length bytes) s (read_on (length bytes) g) v in
    d ∙ ap (λ (t : Bool). if t then at_line s doomed (fold (heard h s) w g.frames) else fold (heard h s) w g.frames) b
    ∙ ap (λ (t : Table). heard_all h s g t) read ∙ sym (ap (took_with h v s bytes) e)

-- the seat that was found, by the line that was read
pub named_found : (v : Table) (n : Option ℕ) (k q : ℕ) (c : Seat) → n ≡ Some q → IsSeatAt v.seats q (Some k) → seat_of v q ≡ Some c → slice_get v.seats k ≡ Some c → IsNamedSeat v n (Some (k, q))
named_found v n k q c e at found here = subst (λ (o : Option ℕ). IsNamedSeat v o (Some (k, q))) (sym e) (refl, at, found ∙ sym here)

-- ---- the steps, each behind the one before

pub record Counting (v u : Table) (l : Line) (count : ℕ) : Type 0 where
  pub lines : u.lines ≡ v.lines
  pub waiting : u.waiting ≡ v.waiting
  pub seats : Linked v.seats u.seats

pub counting : (v u : Table) (l : Line) (count : ℕ) → u ≡ counted l.name count v → Counting v u l count
counting v u l count e = record {
  lines = ap (λ (t : Table). t.lines) e ∙ counted_lines l.name count v;
  waiting = ap (λ (t : Table). t.waiting) e ∙ counted_waits l.name count v;
  seats = ap (λ (t : Table). map (λ c. c.link) t.seats) e ∙ counted_linked l.name count v;
}

pub still_at : (v u : Table) (k s : ℕ) → u.lines ≡ v.lines → IsAt v k s → IsAt u k s
still_at v u k s e at = (at.0, ap (λ (ls : List Line). slice_get ls k) e ∙ at.1, at.2)

pub still_there : (v u : Table) (k : ℕ) (l : Line) → u.lines ≡ v.lines → slice_get u.lines k ≡ Some l → slice_get v.lines k ≡ Some l
still_there v u k l e g = ap (λ (ls : List Line). slice_get ls k) (sym e) ∙ g

pub unnamed_few : (v : Table) (l : Line) (count : ℕ) → l.name ≡ None → count ≤ room_on v l → count ≤ unnamed_room l
unnamed_few v l count e r = subst (λ (o : Option ℕ). count ≤ room_by v l o) e r

pub read_at_place : (u w : Table) (s k n count : ℕ) (g : Given) → w ≡ at_line s (read_on count g) u → IsAt u k n → IsAt w k n
read_at_place u w s k n count g e at =
    subst (λ (t : Table). IsAt t k n) (sym e) (at_alike u.lines (at_line s (read_on count g) u).lines k n (alike_at s (read_on count g) (read_same count g) u.lines) at)

pub heard_place : (h : Hearer) (w x : Table) (s k n : ℕ) (fs : List Frame) → x ≡ fold (heard h s) w fs → IsAt w k n → IsAt x k n
heard_place h w x s k n fs e at = subst (λ (t : Table). IsAt t k n) (sym e) (at_alike w.lines (fold (heard h s) w fs).lines k n (alike_frames h s w fs) at)
