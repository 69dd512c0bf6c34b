-- Waiting: the frames of the last bytes taken are other players' own.
use Rattle.std.proofs.Common.{◌≡◌, ℕ, ◌<◌, Bool, true, false, refl, sym, subst, ◌∙◌, List, [], ◌∷◌, arith, length}
use Rattle.std.specs.Prelude.{Option, Some, None, ◌==◌, ◌&&◌, not, nat_lt, if◌then◌else◌}
use Rattle.std.specs.List.{fold}
use Rattle.std.proofs.lemmas.Bool.{and_from, lt-ltb, ne_eqb, not_from_false}
use Rattle.plain_lemmas.proofs.Pairs.{Pairs}
use Rattle.plain_lemmas.proofs.Each.{each_push}
use Rattle.definitions.specs.Answers.{is_of_another}
use Rattle.definitions.specs.Lists.{EachIs}
use Rattle.definitions.specs.Logs as L
use Rattle.definitions.specs.World.{Game, players_of}
use Rattle.rosters.specs.declared.roster.Link.{Link}
use Rattle.wire_frames.specs.declared.frames.Frame.{Frame}
use Rattle.wire_frames.specs.declared.frames.Frame.TheVariants.{Hello, Turn, Want}
use Rattle.wire_frames.specs.Streams.{Given, given_of}
use Rattle.socket_lines.specs.declared.line.Line.{Line}
use Rattle.socket_lines.specs.declared.seat.Seat.{Seat}
use Rattle.socket_lines.specs.Seats as S
use Rattle.socket_lines.specs.Lines.{doomed, moved_to}
use Rattle.peer_rules.specs.declared.arrivals.Arrival.{Arrival}
use Rattle.loop_rules.specs.Tables.{Table, line_of, seat_of, at_line, at_seat, room_by, room_by_seat, room_on}
use Rattle.loop_rules.specs.Hearing.{Hearer, names, named, heard_first, obeyed, arrived, heard_named, heard_by, heard_on, heard, counted, counted_on, read_on, read_at, heard_all, took_with, took_on}
use Rattle.loop_rules.specs.Handling.{IsOfOther}
use Rattle.socket_table.specs.Staying.{SameSeat}
use Rattle.socket_list.proofs.Pairs.{pairs_key, found_both, found_has, found_is, both_right}
use Rattle.socket_table.proofs.HearingKeeps.{LetsLine, LetsNames, lines_heard, read_lines, seats_heard, seats_read}
use Rattle.socket_table.proofs.Seats.{hearing_same, same_each}

-- a player of the game, and not the own one
abbrev IsOther : Game → (me : ℕ) → ℕ → Type 0
IsOther game me q = (q < players_of game) × (q ≡ me → ⊥)

abbrev IsOthersName : Game → (me : ℕ) → Option ℕ → Type 0
IsOthersName game me None = Unit {0}
IsOthersName game me (Some q) = IsOther game me q

-- the name of a socket that had another player's is another player's
abbrev KeepsOther : Game → (me : ℕ) → Line → Line → Type 0
KeepsOther game me l m = (m.socket ≡ l.socket) × (IsOthersName game me l.name → IsOthersName game me m.name)

lets_other : (game : Game) (me s : ℕ) → LetsLine s (KeepsOther game me)
lets_other game me s = record {
  stays = λ l. (refl, λ o. o);
  goes_on = λ k l m a b. (b.0 ∙ a.0, λ o. b.1 (a.1 o));
  dooms = λ l. (refl, λ o. o);
  jumps = λ place l e. (refl, λ o. o);
  turns = λ place l e. (refl, λ o. o);
}

-- all seats are other players', and so are the name of the socket and the frames that wait
record Waits (game : Game) (me s : ℕ) (t : Table) : Type 0 where
  seats : EachIs (λ c. IsOther game me c.link.player) t.seats
  named : (l : Line) → line_of t s ≡ Some l → IsOthersName game me l.name
  waiting : EachIs (IsOfOther game me) t.waiting

other_seat : (game : Game) (me : ℕ) (t : Table) (q : ℕ) (c : Seat) → EachIs (λ d. IsOther game me d.link.player) t.seats → seat_of t q ≡ Some c → IsOther game me q
other_seat game me t q c e f =
    subst (IsOther game me) (found_has (λ d. d.link.player) q t.seats c f) (found_is (λ d. IsOther game me d.link.player) (λ d. d.link.player == q) t.seats c e f)

seat_stays : (game : Game) (me : ℕ) (c d : Seat) → SameSeat c d → IsOther game me c.link.player → IsOther game me d.link.player
seat_stays game me c d k o = subst (λ (x : Link). IsOther game me x.player) (sym k.link) o

-- the name of the socket stays another player's where it stays or is given to one that has a seat
line_stays : (game : Game) (me s : ℕ) (t u : Table) → Pairs (KeepsOther game me) t.lines u.lines → ((l : Line) → line_of t s ≡ Some l → IsOthersName game me l.name) →
    (m : Line) → line_of u s ≡ Some m → IsOthersName game me m.name
line_stays game me s t u p n m e =
    let r = both_right (KeepsOther game me) (line_of t s) (line_of u s) m (found_both (KeepsOther game me) (λ l. l.socket) s (λ l k w. w.0) t.lines u.lines p) e in
    r.2.1 (n r.0 r.1)

-- ---- one frame

waiting_if : (ws : List Arrival) (b : Bool) (t u : Table) → t.waiting ≡ ws → u.waiting ≡ ws → (if b then t else u).waiting ≡ ws
waiting_if ws true t u x y = x
waiting_if ws false t u x y = y

first_waits : (h : Hearer) (t : Table) (s : ℕ) (l : Line) (f : Frame) → (heard_first h t s l f).waiting ≡ t.waiting
first_waits h t s l (Hello id q pass from) = waiting_if t.waiting (names h t l id q pass) (named h t s l q from) (at_line s doomed t) refl refl
first_waits h t s l (Turn f) = refl
first_waits h t s l (Want place) = refl

obeyed_waits : (t : Table) (s q place : ℕ) (o : Option Seat) → (obeyed t s q place o).waiting ≡ t.waiting
obeyed_waits t s q place None = refl
obeyed_waits t s q place (Some c) = waiting_if t.waiting (S.may_want c) (at_seat q S.obeys (at_line s (moved_to place) t)) t refl refl

named_waits : (game : Game) (me : ℕ) (t : Table) (s q : ℕ) (f : Frame) → IsOther game me q → EachIs (IsOfOther game me) t.waiting → EachIs (IsOfOther game me) (heard_named t s q f).waiting
named_waits game me t s q (Hello id p pass from) o e = e
named_waits game me t s q (Turn f) o e = go (L.player_of f == q) refl
  where
    go : (b : Bool) → (L.player_of f == q) ≡ b → EachIs (IsOfOther game me) (if b then arrived t q f else at_line s doomed t).waiting
    go true w =
        let is : IsOfOther game me (record { player = q; frame = f })
        = and_from (nat_lt q (players_of game) && not (q == me)) (L.player_of f == q)
        (and_from (nat_lt q (players_of game)) (not (q == me)) (lt-ltb q (players_of game) o.0) (not_from_false (q == me) (ne_eqb q me o.1))) w in
        each_push (IsOfOther game me) t.waiting (record { player = q; frame = f }) e is
    go false w = e
named_waits game me t s q (Want place) o e = subst (EachIs (IsOfOther game me)) (sym (obeyed_waits t s q place (seat_of t q))) e

by_waits : (game : Game) (me : ℕ) (h : Hearer) (t : Table) (s : ℕ) (l : Line) (o : Option ℕ) (f : Frame) → IsOthersName game me o → EachIs (IsOfOther game me) t.waiting →
    EachIs (IsOfOther game me) (heard_by h t s l o f).waiting
by_waits game me h t s l None f n e = subst (EachIs (IsOfOther game me)) (sym (first_waits h t s l f)) e
by_waits game me h t s l (Some q) f n e = named_waits game me t s q f n e

on_waits : (game : Game) (me : ℕ) (h : Hearer) (t : Table) (s : ℕ) (f : Frame) (o : Option Line) → ((l : Line) → o ≡ Some l → IsOthersName game me l.name) → EachIs (IsOfOther game me) t.waiting →
    EachIs (IsOfOther game me) (heard_on h t s f o).waiting
on_waits game me h t s f None n e = e
on_waits game me h t s f (Some l) n e = go l.is_wrong
  where
    go : (b : Bool) → EachIs (IsOfOther game me) (if b then t else heard_by h t s l l.name f).waiting
    go true = e
    go false = by_waits game me h t s l l.name f (n l refl) e

waits_heard : (game : Game) (me : ℕ) (h : Hearer) (s : ℕ) (t : Table) (f : Frame) → Waits game me s t → Waits game me s (heard h s t f)
waits_heard game me h s t f w =
    let u = heard h s t f in
    let seated : LetsNames s t (KeepsOther game me) = λ q c e from next l x. (refl, λ o. other_seat game me t q c w.seats e) in
    record {
      seats = same_each (λ c. IsOther game me c.link.player) (seat_stays game me) t.seats u.seats (seats_heard SameSeat hearing_same h s t f) w.seats;
      named = line_stays game me s t u (lines_heard s (KeepsOther game me) (lets_other game me s) h t f seated) w.named;
      waiting = on_waits game me h t s f (line_of t s) w.named w.waiting;
    }

waits_frames : (game : Game) (me : ℕ) (h : Hearer) (s : ℕ) (t : Table) (fs : List Frame) → Waits game me s t → Waits game me s (fold (heard h s) t fs)
waits_frames game me h s t [] w = w
waits_frames game me h s t (f ∷ fs) w = waits_frames game me h s (heard h s t f) fs (waits_heard game me h s t f w)

-- ---- bytes

all_waits : (game : Game) (me : ℕ) (h : Hearer) (s : ℕ) (g : Given) (t : Table) → Waits game me s t → EachIs (IsOfOther game me) (heard_all h s g t).waiting
all_waits game me h s g t w = go g.reader.bad (waits_frames game me h s t g.frames w).waiting
  where
    go : (b : Bool) → EachIs (IsOfOther game me) (fold (heard h s) t g.frames).waiting →
        EachIs (IsOfOther game me) (if b then at_line s doomed (fold (heard h s) t g.frames) else fold (heard h s) t g.frames).waiting
    go true e = e
    go false e = e

read_other : (game : Game) (me count : ℕ) (g : Given) (l : Line) → KeepsOther game me l (read_on count g l)
read_other game me count g l = go l.name
  where
    go : (o : Option ℕ) → KeepsOther game me l (record (counted_on o count l) { reader = g.reader })
    go None = (refl, λ x. x)
    go (Some q) = (refl, λ x. x)

pub counted_waits : (o : Option ℕ) (count : ℕ) (t : Table) → (counted o count t).waiting ≡ t.waiting
counted_waits None count t = refl
counted_waits (Some q) count t = refl

waits_read : (game : Game) (me s count : ℕ) (g : Given) (l : Line) (t : Table) → Waits game me s t → Waits game me s (read_at s count g l t)
waits_read game me s count g l t w =
    let u = read_at s count g l t in
    let pairs = pairs_key (KeepsOther game me) (λ m. m.socket) s (read_on count g) (lets_other game me s).stays (λ m e. read_other game me count g m) t.lines in
    record {
      seats = same_each (λ c. IsOther game me c.link.player) (seat_stays game me) t.seats u.seats (seats_read SameSeat hearing_same s count g l t) w.seats;
      named = line_stays game me s t u (subst (Pairs (KeepsOther game me) t.lines) (sym (read_lines s count g l t)) pairs) w.named;
      waiting = subst (EachIs (IsOfOther game me)) (sym (counted_waits l.name count (at_line s (read_on count g) t))) w.waiting;
    }

-- a name under which bytes may be taken has a seat
name_room : (game : Game) (me : ℕ) (t : Table) (l : Line) (o : Option ℕ) → EachIs (λ c. IsOther game me c.link.player) t.seats → 0 < room_by t l o → IsOthersName game me o
name_room game me t l None e r = tt
name_room game me t l (Some q) e r = go (seat_of t q) refl r
  where
    go : (o : Option Seat) → seat_of t q ≡ o → 0 < room_by_seat o → IsOther game me q
    go None f r = absurd (omega (arith, r))
    go (Some c) f r = other_seat game me t q c e f

pub took_of_others : (game : Game) (me : ℕ) (h : Hearer) (s : ℕ) (bytes : List ℕ) (t : Table) (l : Line) → EachIs (λ c. (c.link.player < players_of game) × (c.link.player ≡ me → ⊥)) t.seats →
    t.waiting ≡ [] → line_of t s ≡ Some l → 0 < room_on t l → EachIs (λ a. is_of_another game me a.player a.frame ≡ true) (took_on h s bytes t).waiting
took_of_others game me h s bytes t l e none found room =
    let g = given_of l.reader bytes in
    let start : Waits game me s t = record {
      seats = e;
      named = λ m f. subst (λ (x : Line). IsOthersName game me x.name) (let q : Some l ≡ Some m = sym found ∙ f in let r : l ≡ m = cc in r) (name_room game me t l l.name e room);
      waiting = subst (EachIs (IsOfOther game me)) (sym none) tt;
    } in
    subst (λ (o : Option Line). EachIs (IsOfOther game me) (took_with h t s bytes o).waiting) (sym found)
    (all_waits game me h s g (read_at s (length bytes) g l t) (waits_read game me s (length bytes) g l t start))
