-- Named: whether a HELLO names a socket, by the seat and the line at their places.
use Rattle.std.proofs.Common.{◌≡◌, ℕ, Bool, true, false, refl, sym, ap, subst, ◌∙◌, List, get_or}
use Rattle.std.specs.Prelude.{Option, Some, ◌&&◌, not, slice_get}
use Rattle.std.specs.Str.{bytes_eq}
use Rattle.std.proofs.lemmas.Bool.{and_parts, false≢true}
use Rattle.std.proofs.lemmas.Option.{get_or_from_slice_get}
use Rattle.socket_lines.specs.declared.line.Line.{Line}
use Rattle.socket_lines.specs.declared.seat.Seat.{Seat}
use Rattle.socket_lines.specs.Seats as S
use Rattle.socket_lines.specs.Lines as L
use Rattle.loop_rules.specs.Tables.{Table, seat_of}
use Rattle.loop_rules.specs.Hearing.{Hearer, lets_seat_name, names}
use Rattle.socket_table.specs.Finding.{IsSeatAt, IsNaming}
use Rattle.socket_table.specs.Sound.{IsSound}
use Rattle.socket_list.proofs.Keys.{found_at}

-- the seat at the place is the player's
pub seat_found : (t : Table) (a b k q : ℕ) (y : Seat) → IsSound t a b → IsSeatAt t.seats q (Some k) → y ≡ get_or t.seats k y → seat_of t q ≡ Some y
seat_found t a b k q y s at i =
    found_at (λ c. c.link.player) q t.seats k at.0 s.players at.1 at.2 ∙ ap (λ (x : Seat). Some x) (sym (i ∙ get_or_from_slice_get t.seats k at.0 y at.1))

pub names_by : (t v : Table) (a b k place q : ℕ) (h : Hearer) (id session pass : List ℕ) (l x : Line) (y : Seat) → t ≡ v → IsSound t a b → IsSeatAt t.seats q (Some k) → y ≡ get_or t.seats k y →
    slice_get v.lines place ≡ Some l → x ≡ get_or t.lines place x → h.id ≡ session → names h v l id q pass ≡ (bytes_eq id session && S.lets_name y pass && L.lets_name q x)
names_by t v a b k place q h id session pass l x y e s at i g j n =
    let seat : seat_of v q ≡ Some y = ap (λ (w : Table). seat_of w q) (sym e) ∙ seat_found t a b k q y s at i in
    let line : l ≡ x = sym (j ∙ get_or_from_slice_get t.lines place l x (ap (λ (w : Table). slice_get w.lines place) e ∙ g)) in
    ap (λ (z : List ℕ). bytes_eq id z && lets_seat_name (seat_of v q) pass && L.lets_name q l) n
    ∙ ap (λ (o : Option Seat). bytes_eq id session && lets_seat_name o pass && L.lets_name q l) seat
    ∙ ap (λ (m : Line). bytes_eq id session && S.lets_name y pass && L.lets_name q m) line

not_spent : (b : Bool) → not b ≡ true → b ≡ false
not_spent true e = absurd (false≢true e)
not_spent false e = refl

-- it does, with what is known of its seat
pub is_naming : (t v : Table) (a b k place q : ℕ) (h : Hearer) (id session pass : List ℕ) (l x : Line) (y : Seat) → t ≡ v → IsSound t a b → IsSeatAt t.seats q (Some k) → y ≡ get_or t.seats k y →
    slice_get v.lines place ≡ Some l → x ≡ get_or t.lines place x → h.id ≡ session → (bytes_eq id session && S.lets_name y pass && L.lets_name q x) ≡ true →
    IsNaming v (names h v l id q pass) q (Some k)
is_naming t v a b k place q h id session pass l x y e s at i g j n sure =
    let let_it = and_parts _ _ (and_parts _ _ (and_parts _ _ sure).0).1 in
    let it : y ≡ at.0 = i ∙ get_or_from_slice_get t.seats k at.0 y at.1 in (
      names_by t v a b k place q h id session pass l x y e s at i g j n ∙ sure,
      at.0,
      ap (λ (w : Table). slice_get w.seats k) (sym e) ∙ at.1,
      at.2,
      subst (λ (c : Seat). S.is_spent c ≡ false) it (not_spent (S.is_spent y) let_it.1),
    )

-- the same in the table that contracts see
pub seat_seen : (t v : Table) (a b k q : ℕ) (y : Seat) → t ≡ v → IsSound t a b → IsSeatAt v.seats q (Some k) → y ≡ get_or t.seats k y → seat_of v q ≡ Some y
seat_seen t v a b k q y e s at i =
    ap (λ (w : Table). seat_of w q) (sym e) ∙ seat_found t a b k q y s (at.0, ap (λ (w : Table). slice_get w.seats k) e ∙ at.1, at.2) i

pub seat_stands : (t v : Table) (a b k q : ℕ) → t ≡ v → IsSound t a b → (at : IsSeatAt v.seats q (Some k)) → seat_of v q ≡ Some at.0
seat_stands t v a b k q e s at =
    ap (λ (w : Table). seat_of w q) (sym e) ∙ found_at (λ c. c.link.player) q t.seats k at.0 s.players (ap (λ (w : Table). slice_get w.seats k) e ∙ at.1) at.2
