-- Asked: what a table answers, by the seat of a line's player.
use Rattle.std.proofs.Common.{◌≡◌, ℕ, refl, sym, ap, subst, ◌∙◌, List, get_or}
use Rattle.std.specs.Prelude.{Option, Some, None, slice_get}
use Rattle.std.proofs.lemmas.Option.{get_or_from_slice_get}
use Rattle.socket_lines.specs.declared.line.Line.{Line}
use Rattle.socket_lines.specs.declared.seat.Seat.{Seat}
use Rattle.socket_lines.specs.Seats as S
use Rattle.socket_lines.specs.Lines.{player_of}
use Rattle.loop_rules.specs.Tables.{Table, seat_of, seat_by, room_by, room_by_seat, room_on, desk_with, desk_of}
use Rattle.socket_table.specs.Finding.{IsSeatAt, IsDeskSeat}
use Rattle.socket_table.specs.Sound.{IsSound}
use Rattle.socket_table.proofs.Changed.{line_seen}
use Rattle.socket_table.proofs.Heard.{seen_at, seen_none}
use Rattle.socket_table.proofs.Named.{seat_stands}

pub room_named : (t : Table) (l : Line) (q : ℕ) (c : Seat) → l.name ≡ Some q → seat_of t q ≡ Some c → S.room_of c ≡ room_on t l
room_named t l q c n e = sym (ap (λ (o : Option ℕ). room_by t l o) n ∙ ap (λ (o : Option Seat). room_by_seat o) e)

-- ---- desks

pub desk_none : (t : Table) (l : Line) (o : Option ℕ) → IsDeskSeat t (player_of l) o → o ≡ None → desk_of t l ≡ None
desk_none t l o w e = ap (desk_with l) (subst (IsDeskSeat t (player_of l)) e w)

pub desk_some : (t : Table) (l : Line) (o : Option ℕ) (k : ℕ) (c : Seat) → IsDeskSeat t (player_of l) o → o ≡ Some k → slice_get t.seats k ≡ Some c → desk_of t l ≡ Some (record { line = l; seat = c })
desk_some t l o k c w e g =
    let at = subst (IsDeskSeat t (player_of l)) e w in
    let same : at.0 ≡ c = (let q : Some at.0 ≡ Some c = sym at.1 ∙ g in cc) in
    ap (desk_with l) (at.3 ∙ ap (λ (x : Seat). Some x) same)

pub desk_from : (t v : Table) (a b : ℕ) (ds : List Seat) (q : ℕ) (n o : Option ℕ) → t ≡ v → IsSound t a b → ds ≡ t.seats → IsSeatAt ds q o → n ≡ Some q → IsDeskSeat v n o
desk_from t v a b ds q n None e s d at w = ap (seat_by v) w ∙ seen_none t v ds q None e d at refl
desk_from t v a b ds q n (Some k) e s d at w =
    let here = seen_at t v ds q k (Some k) e d at refl in
    (here.0, here.1, w ∙ ap (λ (x : ℕ). Some x) (sym here.2), ap (seat_by v) w ∙ seat_stands t v a b k q e s here)

-- a desk by the line and the seat that were read
pub desk_read : (t v : Table) (place k : ℕ) (x l : Line) (y : Seat) (o : Option ℕ) → t ≡ v → x ≡ get_or t.lines place x → slice_get v.lines place ≡ Some l → y ≡ get_or t.seats k y →
    IsDeskSeat v (player_of l) o → o ≡ Some k → desk_of v l ≡ Some (record { line = x; seat = y })
desk_read t v place k x l y o e i g j w is =
    let at = subst (IsDeskSeat v (player_of l)) is w in
    let same : y ≡ at.0 = j ∙ get_or_from_slice_get t.seats k at.0 y (ap (λ (u : Table). slice_get u.seats k) e ∙ at.1) in
    let line = line_seen t v place x l e i g in
    ap (desk_with l) (at.3 ∙ ap (λ (c : Seat). Some c) (sym same)) ∙ ap (λ (m : Line). Some (record { line = m; seat = y })) (sym line)
