-- Heard: what the frames do that come on a socket, by the places of its line and its player's seat.
use Rattle.std.proofs.Common.{◌≡◌, ℕ, zero, suc, ◌+◌, ◌<◌, ◌≤◌, Bool, true, false, refl, sym, ap, subst, ◌∙◌, List, [], ◌∷◌, arith, length, get_or}
use Rattle.std.specs.Prelude.{Option, Some, None, ◌==◌, drop, find, map, slice_get, if◌then◌else◌}
use Rattle.std.specs.List.{fold}
use Rattle.std.proofs.lemmas.Bool.{eq-eqb}
use Rattle.std.proofs.lemmas.Option.{get_or_from_slice_get}
use Rattle.std.proofs.lemmas.List.{drop_more}
use Rattle.definitions.specs.Logs as G
use Rattle.rosters.specs.declared.roster.Link.{Link}
use Rattle.wire_frames.specs.declared.frames.Frame.{Frame}
use Rattle.wire_frames.specs.declared.frames.Frame.TheVariants.{Hello, Turn, Want}
use Rattle.socket_lines.specs.declared.line.Line.{Line}
use Rattle.socket_lines.specs.declared.seat.Seat.{Seat}
use Rattle.socket_lines.specs.Seats as S
use Rattle.socket_lines.specs.Lines.{doomed, moved_to}
use Rattle.peer_rules.specs.declared.arrivals.Arrival.{Arrival}
use Rattle.loop_rules.specs.Tables.{Table, line_of, seat_of, in_seats, at_line, at_seat}
use Rattle.loop_rules.specs.Told.{HasNone}
use Rattle.loop_rules.specs.Hearing.{Hearer, names, named, heard_first, obeyed, arrived, heard_named, heard_by, heard_on, heard}
use Rattle.loop_rules.proofs.Alike.{Alike, alike_heard}
use Rattle.socket_table.specs.Finding.{IsAt, IsSeatAt, IsNaming}
use Rattle.socket_table.specs.Hearers.{ArePlayers}
use Rattle.socket_table.specs.Sound.{IsSound}
use Rattle.socket_list.proofs.Counting.{length_more}
use Rattle.socket_list.proofs.Keys.{found_at, none_changed}
use Rattle.socket_list.proofs.Lists.{each_at}

-- ---- the line at its place

-- the line that was read at the place is the one of the socket
pub record Stands (v : Table) (k s : ℕ) (x : Line) : Type 0 where
  pub here : slice_get v.lines k ≡ Some x
  pub socket : x.socket ≡ s
  pub found : line_of v s ≡ Some x

pub line_at : (t v : Table) (a b k s : ℕ) (x : Line) → t ≡ v → IsSound t a b → IsAt v k s → x ≡ get_or t.lines k x → Stands v k s x
line_at t v a b k s x e w at i =
    let g : slice_get t.lines k ≡ Some at.0 = ap (λ (u : Table). slice_get u.lines k) e ∙ at.1 in
    let it : x ≡ at.0 = i ∙ get_or_from_slice_get t.lines k at.0 x g in
    record {
      here = at.1 ∙ ap (λ (l : Line). Some l) (sym it);
      socket = ap (λ (l : Line). l.socket) it ∙ at.2;
      found = ap (λ (u : Table). line_of u s) (sym e) ∙ found_at (λ l. l.socket) s t.lines k at.0 w.sockets g at.2 ∙ ap (λ (l : Line). Some l) (sym it);
    }

pub heard_wrong : (h : Hearer) (v : Table) (s : ℕ) (f : Frame) (x : Line) → line_of v s ≡ Some x → x.is_wrong ≡ true → v ≡ heard h s v f
heard_wrong h v s f x e w =
    sym (ap (heard_on h v s f) e ∙ ap (λ (b : Bool). if b then v else heard_by h v s x x.name f) w)

pub heard_with : (h : Hearer) (u v : Table) (s : ℕ) (f : Frame) (x : Line) (o : Option ℕ) → line_of v s ≡ Some x → x.is_wrong ≡ false → x.name ≡ o → u ≡ heard_by h v s x o f → u ≡ heard h s v f
heard_with h u v s f x o e w n q =
    q ∙ sym (ap (heard_on h v s f) e ∙ ap (λ (b : Bool). if b then v else heard_by h v s x x.name f) w ∙ ap (λ (p : Option ℕ). heard_by h v s x p f) n)

-- ---- a HELLO

pub naming_at : (t : Table) (b : Bool) (q k : ℕ) → IsNaming t b q (Some k) → IsSeatAt t.seats q (Some k)
naming_at t b q k n = (n.1, n.2, n.3)

pub naming_unspent : (t : Table) (b : Bool) (q k : ℕ) (c : Seat) → IsNaming t b q (Some k) → slice_get t.seats k ≡ Some c → S.is_spent c ≡ false
naming_unspent t b q k c n g = subst (λ (d : Seat). S.is_spent d ≡ false) (let e : Some n.1 ≡ Some c = sym n.2 ∙ g in let q : n.1 ≡ c = cc in q) n.4

pub naming_player : (players : ℕ) (t : Table) (b : Bool) (q k : ℕ) → ArePlayers players t.seats → IsNaming t b q (Some k) → q < players
naming_player players t b q k all n = subst (λ (p : ℕ). p < players) n.3 (each_at (λ c. c.link.player < players) t.seats k n.1 all n.2)

-- what is done of a HELLO, by whether it names another player
pub hello_heard : (h : Hearer) (v u : Table) (s : ℕ) (l : Line) (id : List ℕ) (q : ℕ) (pass : List ℕ) (from : ℕ) (b : Bool) → names h v l id q pass ≡ b →
    u ≡ (if b then named h v s l q from else at_line s doomed v) → u ≡ heard_first h v s l (Hello id q pass from)
hello_heard h v u s l id q pass from b e w = w ∙ sym (ap (λ (d : Bool). if d then named h v s l q from else at_line s doomed v) e)

-- ---- a WANT

pub obeyed_it : (u v : Table) (s q want : ℕ) (c : Seat) → seat_of v q ≡ Some c → S.may_want c ≡ true → u ≡ at_seat q S.obeys (at_line s (moved_to want) v) → u ≡ obeyed v s q want (seat_of v q)
obeyed_it u v s q want c e m w = w ∙ sym (ap (obeyed v s q want) e ∙ ap (λ (b : Bool). if b then at_seat q S.obeys (at_line s (moved_to want) v) else v) m)

pub passed_it : (v : Table) (s q want : ℕ) (c : Seat) → seat_of v q ≡ Some c → S.may_want c ≡ false → v ≡ obeyed v s q want (seat_of v q)
passed_it v s q want c e m = sym (ap (obeyed v s q want) e ∙ ap (λ (b : Bool). if b then at_seat q S.obeys (at_line s (moved_to want) v) else v) m)

-- nobody of the number is there
pub find_none : (q : ℕ) (cs : List Seat) → find (λ c. c.link.player == q) cs ≡ None → HasNone (λ c. c.link.player) q cs
find_none q [] e = tt
find_none q (c ∷ cs) e = go (c.link.player == q) refl e (find_none q cs)
  where
    go : (b : Bool) → (c.link.player == q) ≡ b → (if b then Some c else find (λ d. d.link.player == q) cs) ≡ None → (find (λ d. d.link.player == q) cs ≡ None → HasNone (λ d. d.link.player) q cs) →
        HasNone (λ d. d.link.player) q (c ∷ cs)
    go true w n more = absurd (cc)
    go false w n more = (λ x. (let y : false ≡ true = sym w ∙ eq-eqb c.link.player q x in cc), more n)

pub want_of_none : (v : Table) (s q want : ℕ) → seat_of v q ≡ None → v ≡ at_seat q (S.reaches want) (obeyed v s q want (seat_of v q))
want_of_none v s q want e =
    sym (ap (λ (o : Option Seat). at_seat q (S.reaches want) (obeyed v s q want o)) e
    ∙ ap (λ (cs : List Seat). record v { seats = cs }) (none_changed (λ c. c.link.player) q (S.reaches want) v.seats (find_none q v.seats e)))

-- ---- what stays

-- the seats are those of the same links
abbrev pub Linked : List Seat → List Seat → Type 0
Linked cs ds = map (λ c. c.link) ds ≡ map (λ c. c.link) cs

linked_if : (b : Bool) (c d : Seat) → d.link ≡ c.link → (if b then d else c).link ≡ c.link
linked_if true c d e = e
linked_if false c d e = refl

pub linked_seats : (q : ℕ) (f : Seat → Seat) → ((c : Seat) → (f c).link ≡ c.link) → (cs : List Seat) → Linked cs (in_seats q f cs)
linked_seats q f k [] = refl
linked_seats q f k (c ∷ cs) =
    ap (λ (x : Link). x ∷ map (λ d. d.link) (in_seats q f cs)) (linked_if (c.link.player == q) c (f c) (k c)) ∙ ap (λ (xs : List Link). c.link ∷ xs) (linked_seats q f k cs)

linked_table : (cs : List Seat) (b : Bool) (t u : Table) → Linked cs t.seats → Linked cs u.seats → Linked cs (if b then t else u).seats
linked_table cs true t u x y = x
linked_table cs false t u x y = y

linked_first : (h : Hearer) (t : Table) (s : ℕ) (l : Line) (f : Frame) → Linked t.seats (heard_first h t s l f).seats
linked_first h t s l (Hello id q pass from) =
    linked_table t.seats (names h t l id q pass) (named h t s l q from) (at_line s doomed t) (linked_seats q (S.names l.taken from) (λ c. refl) t.seats) refl
linked_first h t s l (Turn f) = refl
linked_first h t s l (Want place) = refl

linked_obeyed : (t : Table) (s q want : ℕ) (o : Option Seat) → Linked t.seats (obeyed t s q want o).seats
linked_obeyed t s q want None = refl
linked_obeyed t s q want (Some c) = linked_table t.seats (S.may_want c) (at_seat q S.obeys (at_line s (moved_to want) t)) t (linked_seats q S.obeys (λ d. refl) t.seats) refl

linked_named : (t : Table) (s q : ℕ) (f : Frame) → Linked t.seats (heard_named t s q f).seats
linked_named t s q (Hello id p pass from) = refl
linked_named t s q (Turn f) = linked_table t.seats (G.player_of f == q) (arrived t q f) (at_line s doomed t) refl refl
linked_named t s q (Want place) =
    let u = obeyed t s q place (seat_of t q) in
    linked_seats q (S.reaches place) (λ c. refl) u.seats ∙ linked_obeyed t s q place (seat_of t q)

linked_by : (h : Hearer) (t : Table) (s : ℕ) (l : Line) (o : Option ℕ) (f : Frame) → Linked t.seats (heard_by h t s l o f).seats
linked_by h t s l None f = linked_first h t s l f
linked_by h t s l (Some q) f = linked_named t s q f

linked_on : (h : Hearer) (t : Table) (s : ℕ) (f : Frame) (o : Option Line) → Linked t.seats (heard_on h t s f o).seats
linked_on h t s f None = refl
linked_on h t s f (Some l) = linked_table t.seats l.is_wrong t (heard_by h t s l l.name f) refl (linked_by h t s l l.name f)

pub linked_heard : (h : Hearer) (s : ℕ) (t : Table) (f : Frame) → Linked t.seats (heard h s t f).seats
linked_heard h s t f = linked_on h t s f (line_of t s)

pub players_linked : (players : ℕ) (cs ds : List Seat) → Linked cs ds → ArePlayers players cs → ArePlayers players ds
players_linked players [] [] e p = tt
players_linked players [] (d ∷ ds) e p = absurd (cc)
players_linked players (c ∷ cs) [] e p = absurd (cc)
players_linked players (c ∷ cs) (d ∷ ds) e p =
    let here : c.link ≡ d.link = cc in
    let more : map (λ x. x.link) ds ≡ map (λ x. x.link) cs = cc in
    (subst (λ (l : Link). l.player < players) here p.0, players_linked players cs ds more p.1)

-- a seat at a place is there behind a change of seats
pub seat_stays : (cs ds : List Seat) (q k : ℕ) → Linked cs ds → IsSeatAt cs q (Some k) → IsSeatAt ds q (Some k)
seat_stays [] ds q k e at = (let g : None ≡ Some at.0 = at.1 in absurd (cc))
seat_stays (c ∷ cs) [] q k e at = absurd (cc)
seat_stays (c ∷ cs) (d ∷ ds) q zero e at =
    let here : d.link ≡ c.link = cc in
    let same : c ≡ at.0 = (let g : Some c ≡ Some at.0 = at.1 in cc) in
    (d, refl, ap (λ (l : Link). l.player) (here ∙ ap (λ (x : Seat). x.link) same) ∙ at.2)
seat_stays (c ∷ cs) (d ∷ ds) q (suc k) e at = seat_stays cs ds q k (cc) (at.0, at.1, at.2)

pub obeyed_seat : (t : Table) (s q want k : ℕ) (o : Option Seat) → IsSeatAt t.seats q (Some k) → IsSeatAt (obeyed t s q want o).seats q (Some k)
obeyed_seat t s q want k o at = seat_stays t.seats (obeyed t s q want o).seats q k (linked_obeyed t s q want o) at

-- the line at a place stays that of its socket
pub at_alike : (ls ms : List Line) (k s : ℕ) → Alike ls ms → (l : Line) × (slice_get ls k ≡ Some l) × (l.socket ≡ s) → (m : Line) × (slice_get ms k ≡ Some m) × (m.socket ≡ s)
at_alike [] [] k s a at = (let g : None ≡ Some at.0 = at.1 in absurd (cc))
at_alike [] (m ∷ ms) k s a at = absurd a
at_alike (l ∷ ls) [] k s a at = absurd a
at_alike (l ∷ ls) (m ∷ ms) zero s a at = (m, refl, a.0.socket ∙ ap (λ (x : Line). x.socket) (let g : Some l ≡ Some at.0 = at.1 in let q : l ≡ at.0 = cc in q) ∙ at.2)
at_alike (l ∷ ls) (m ∷ ms) (suc k) s a at = at_alike ls ms k s a.1 at

pub heard_at : (h : Hearer) (n : ℕ) (t : Table) (f : Frame) (k s : ℕ) → IsAt t k s → IsAt (heard h n t f) k s
heard_at h n t f k s at = at_alike t.lines (heard h n t f).lines k s (alike_heard h n t f) at

-- a frame makes one more that waits, at most
more_waits : (ws : List Arrival) (b : Bool) (t u : Table) → length t.waiting ≤ length ws + 1 → length u.waiting ≤ length ws + 1 → length (if b then t else u).waiting ≤ length ws + 1
more_waits ws true t u x y = x
more_waits ws false t u x y = y

first_waits : (h : Hearer) (t : Table) (s : ℕ) (l : Line) (f : Frame) → length (heard_first h t s l f).waiting ≤ length t.waiting + 1
first_waits h t s l (Hello id q pass from) = more_waits t.waiting (names h t l id q pass) (named h t s l q from) (at_line s doomed t) (omega arith) (omega arith)
first_waits h t s l (Turn f) = omega arith
first_waits h t s l (Want place) = omega arith

obeyed_waits : (t : Table) (s q want : ℕ) (o : Option Seat) → length (obeyed t s q want o).waiting ≤ length t.waiting + 1
obeyed_waits t s q want None = omega arith
obeyed_waits t s q want (Some c) = more_waits t.waiting (S.may_want c) (at_seat q S.obeys (at_line s (moved_to want) t)) t (omega arith) (omega arith)

named_waits : (t : Table) (s q : ℕ) (f : Frame) → length (heard_named t s q f).waiting ≤ length t.waiting + 1
named_waits t s q (Hello id p pass from) = omega arith
named_waits t s q (Turn f) =
    let r = length_more t.waiting (record { player = q; frame = f }) in
    more_waits t.waiting (G.player_of f == q) (arrived t q f) (at_line s doomed t) (omega (arith, r)) (omega arith)
named_waits t s q (Want place) = obeyed_waits t s q place (seat_of t q)

by_waits : (h : Hearer) (t : Table) (s : ℕ) (l : Line) (o : Option ℕ) (f : Frame) → length (heard_by h t s l o f).waiting ≤ length t.waiting + 1
by_waits h t s l None f = first_waits h t s l f
by_waits h t s l (Some q) f = named_waits t s q f

on_waits : (h : Hearer) (t : Table) (s : ℕ) (f : Frame) (o : Option Line) → length (heard_on h t s f o).waiting ≤ length t.waiting + 1
on_waits h t s f None = omega arith
on_waits h t s f (Some l) = more_waits t.waiting l.is_wrong t (heard_by h t s l l.name f) (omega arith) (by_waits h t s l l.name f)

pub heard_waits : (h : Hearer) (s : ℕ) (t : Table) (f : Frame) → length (heard h s t f).waiting ≤ length t.waiting + 1
heard_waits h s t f = on_waits h t s f (line_of t s)

-- ---- places that were found

pub seen_at : (t v : Table) (ds : List Seat) (q k : ℕ) (o : Option ℕ) → t ≡ v → ds ≡ t.seats → IsSeatAt ds q o → o ≡ Some k → IsSeatAt v.seats q (Some k)
seen_at t v ds q k o e d at i = subst (λ (cs : List Seat). IsSeatAt cs q (Some k)) (d ∙ ap (λ (w : Table). w.seats) e) (subst (IsSeatAt ds q) i at)

pub seen_none : (t v : Table) (ds : List Seat) (q : ℕ) (o : Option ℕ) → t ≡ v → ds ≡ t.seats → IsSeatAt ds q o → o ≡ None → seat_of v q ≡ None
seen_none t v ds q o e d at i = subst (λ (cs : List Seat). IsSeatAt cs q None) (d ∙ ap (λ (w : Table). w.seats) e) (subst (IsSeatAt ds q) i at)

pub naming_of : (t : Table) (b : Bool) (q k : ℕ) (o : Option ℕ) → IsNaming t b q o → o ≡ Some k → IsNaming t b q (Some k)
naming_of t b q k o n e = subst (IsNaming t b q) e n

pub no_naming : (t : Table) (b : Bool) (q : ℕ) (o : Option ℕ) → IsNaming t b q o → o ≡ None → b ≡ false
no_naming t b q o n e = subst (IsNaming t b q) e n

-- ---- frame by frame

pub record Hearing (h : Hearer) (s k : ℕ) (players : ℕ) (most : ℕ) (start t : Table) (all left : List Frame) : Type 0 where
  pub at : IsAt t k s
  pub room : length t.waiting + length left ≤ most
  pub seats : ArePlayers players t.seats
  pub heard_so : fold (heard h s) t left ≡ fold (heard h s) start all

pub hears_one : (h : Hearer) (s k : ℕ) (players : ℕ) (most : ℕ) (start t u : Table) (all : List Frame) (i : ℕ) (x : Frame) → i < length all → Hearing h s k players most start t all (drop i all) →
    u ≡ heard h s t (get_or all i x) → Hearing h s k players most start u all (drop (i + 1) all)
hears_one h s k players most start t u all i x lt w e =
    let f = get_or all i x in
    let split : drop i all ≡ f ∷ drop (i + 1) all = drop_more all i x lt in
    let long = ap (λ (fs : List Frame). length fs) split in
    let one = heard_waits h s t f in
    let same = ap (λ (y : Table). length y.waiting) e in
    let room = w.room in
    record {
      at = subst (λ (y : Table). IsAt y k s) (sym e) (heard_at h s t f k s w.at);
      room = omega (arith, long, one, same, room);
      seats = subst (λ (y : Table). ArePlayers players y.seats) (sym e) (players_linked players t.seats (heard h s t f).seats (linked_heard h s t f) w.seats);
      heard_so = ap (λ (y : Table). fold (heard h s) y (drop (i + 1) all)) e ∙ sym (ap (λ (fs : List Frame). fold (heard h s) t fs) split) ∙ w.heard_so;
    }

-- the line at a place is the one of its socket
pub line_found : (t v : Table) (a b k s : ℕ) → t ≡ v → IsSound t a b → (at : IsAt v k s) → line_of v s ≡ Some at.0
line_found t v a b k s e w at =
    ap (λ (u : Table). line_of u s) (sym e) ∙ found_at (λ l. l.socket) s t.lines k at.0 w.sockets (ap (λ (u : Table). slice_get u.lines k) e ∙ at.1) at.2

-- nothing changes where the player has no seat
pub no_seat : (v : Table) (q : ℕ) (f : Seat → Seat) → seat_of v q ≡ None → v ≡ at_seat q f v
no_seat v q f e = sym (ap (λ (cs : List Seat). record v { seats = cs }) (none_changed (λ c. c.link.player) q f v.seats (find_none q v.seats e)))
