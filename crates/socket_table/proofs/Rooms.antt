-- Rooms: bytes that come leave less to be read of their player, and no more of anyone.
use Rattle.std.proofs.Common.{◌≡◌, ℕ, ◌+◌, ◌<◌, ◌≤◌, Bool, true, false, refl, sym, ap, subst, ◌∙◌, List, [], ◌∷◌, arith, length}
use Rattle.std.specs.Prelude.{Option, Some, None, ◌==◌, slice_get, if◌then◌else◌}
use Rattle.std.specs.List.{fold}
use Rattle.std.proofs.lemmas.Bool.{eq-eqb}
use Rattle.plain_lemmas.proofs.Pairs.{Pairs}
use Rattle.rosters.specs.declared.roster.Link.{Link}
use Rattle.wire_frames.specs.declared.frames.Frame.{Frame}
use Rattle.wire_frames.specs.Streams.{Given, given_of}
use Rattle.socket_lines.specs.declared.limits.TheConstants.{MOST_BYTES}
use Rattle.socket_lines.specs.declared.line.Line.{Line}
use Rattle.socket_lines.specs.declared.seat.Seat.{Seat}
use Rattle.socket_lines.specs.Seats as S
use Rattle.socket_lines.specs.Lines.{doomed}
use Rattle.loop_rules.specs.Tables.{Table, line_of, seat_of, at_line, room_by, room_by_seat, room_on}
use Rattle.loop_rules.specs.Hearing.{Hearer, heard_named, heard_by, heard_on, heard, counted, counted_on, read_on, read_at, heard_all, took_with, took_on}
use Rattle.loop_rules.specs.Told.{Differ}
use Rattle.loop_rules.proofs.Alike.{alike_took, differ_alike}
use Rattle.socket_list.specs.Pairs.{Both}
use Rattle.socket_table.specs.Staying.{Rooms, more_unnamed, left_on}
use Rattle.socket_list.proofs.Keys.{found_at}
use Rattle.socket_list.proofs.Pairs.{pairs_key, pair_at, map_at, found_both, found_key, both_left}
use Rattle.socket_table.proofs.HearingKeeps.{LetsLine, LetsSeat, lines_doomed, lines_heard_named, lines_heard_all, read_lines, seats_heard_all, seats_took}

-- ---- no more is left of anyone

-- the same player's seat, of which no less was read
pub record SpendsMore (c d : Seat) : Type 0 where
  pub link : d.link ≡ c.link
  pub spent : c.spent ≤ d.spent

hearing_spends : LetsSeat SpendsMore
hearing_spends = record {
  stays = λ c. record { link = refl; spent = omega arith };
  goes_on = λ b c d x y. record { link = y.link ∙ x.link; spent = (let a = x.spent in let e = y.spent in omega (arith, a, e)) };
  named_by = λ taken from c. record { link = refl; spent = omega arith };
  obeyed_of = λ c. record { link = refl; spent = omega arith };
  reached = λ place c. record { link = refl; spent = omega arith };
  spent = λ count c. record { link = refl; spent = omega arith };
}

room_both : (o p : Option Seat) → Both SpendsMore o p → room_by_seat p ≤ room_by_seat o
room_both None None b = omega arith
room_both None (Some d) b = absurd b
room_both (Some c) None b = absurd b
room_both (Some c) (Some d) b = let s = b.spent in omega (arith, s)

-- less room is left where more is spent
pub rooms_spent : (t u : Table) → Pairs SpendsMore t.seats u.seats → Rooms t u
rooms_spent t u p q =
    room_both (seat_of t q) (seat_of u q) (found_both SpendsMore (λ c. c.link.player) q (λ c d k. ap (λ (x : Link). x.player) k.link) t.seats u.seats p)

pub took_rooms : (h : Hearer) (s : ℕ) (bytes : List ℕ) (t : Table) → Rooms t (took_on h s bytes t)
took_rooms h s bytes t = rooms_spent t (took_on h s bytes t) (seats_took SpendsMore hearing_spends h t s bytes (line_of t s))

-- ---- a name stays

-- the same socket, of which the same is read
abbrev SameOf : {X : Type 0} → (Line → X) → Line → Line → Type 0
SameOf read l m = (m.socket ≡ l.socket) × (read m ≡ read l)

lets_same : {X : Type 0} (read : Line → X) (s : ℕ) → ((l : Line) → read (doomed l) ≡ read l) → ((place : ℕ) (l : Line) → read (record l { jump = Some place }) ≡ read l) →
    ((place : ℕ) (l : Line) → read (record l { cursor = place }) ≡ read l) → LetsLine s (SameOf read)
lets_same read s dooms jumps turns = record {
  stays = λ l. (refl, refl);
  goes_on = λ k l m a b. (b.0 ∙ a.0, b.1 ∙ a.1);
  dooms = λ l. (refl, dooms l);
  jumps = λ place l e. (refl, jumps place l);
  turns = λ place l e. (refl, turns place l);
}

abbrev SameName : Line → Line → Type 0
SameName = SameOf (λ l. l.name)

lets_same_name : (s : ℕ) → LetsLine s SameName
lets_same_name s = lets_same (λ l. l.name) s (λ l. refl) (λ place l. refl) (λ place l. refl)

-- the socket is named so
abbrev IsNamedSo : Table → (s q : ℕ) → Type 0
IsNamedSo t s q = (l : Line) × (line_of t s ≡ Some l) × (l.name ≡ Some q)

named_pairs : (t u : Table) (s q : ℕ) → Pairs SameName t.lines u.lines → IsNamedSo t s q → IsNamedSo u s q
named_pairs t u s q p n =
    let r = both_left SameName (line_of t s) (line_of u s) n.0 (found_both SameName (λ l. l.socket) s (λ l m k. k.0) t.lines u.lines p) n.1 in
    (r.0, r.1, r.2.1 ∙ n.2)

named_heard : (h : Hearer) (s q : ℕ) (t : Table) (f : Frame) → IsNamedSo t s q → IsNamedSo (heard h s t f) s q
named_heard h s q t f n = subst (λ (o : Option Line). IsNamedSo (heard_on h t s f o) s q) (sym n.1) (go n.0.is_wrong)
  where
    go : (b : Bool) → IsNamedSo (if b then t else heard_by h t s n.0 n.0.name f) s q
    go true = n
    go false = subst (λ (o : Option ℕ). IsNamedSo (heard_by h t s n.0 o f) s q) (sym n.2) (named_pairs t (heard_named t s q f) s q (lines_heard_named s SameName (lets_same_name s) t q f) n)

named_frames : (h : Hearer) (s q : ℕ) (t : Table) (fs : List Frame) → IsNamedSo t s q → IsNamedSo (fold (heard h s) t fs) s q
named_frames h s q t [] n = n
named_frames h s q t (f ∷ fs) n = named_frames h s q (heard h s t f) fs (named_heard h s q t f n)

named_all : (h : Hearer) (s q : ℕ) (g : Given) (t : Table) → IsNamedSo t s q → IsNamedSo (heard_all h s g t) s q
named_all h s q g t n = go g.reader.bad
  where
    u : Table
    u = fold (heard h s) t g.frames

    frames : IsNamedSo u s q
    frames = named_frames h s q t g.frames n

    go : (b : Bool) → IsNamedSo (if b then at_line s doomed u else u) s q
    go true = named_pairs u (at_line s doomed u) s q (lines_doomed s SameName (lets_same_name s) s u) frames
    go false = frames

read_name : (count : ℕ) (g : Given) (l : Line) → SameName l (read_on count g l)
read_name count g l = go l.name
  where
    go : (o : Option ℕ) → SameName l (record (counted_on o count l) { reader = g.reader })
    go None = (refl, refl)
    go (Some q) = (refl, refl)

named_read : (s q count : ℕ) (g : Given) (l : Line) (t : Table) → IsNamedSo t s q → IsNamedSo (read_at s count g l t) s q
named_read s q count g l t n =
    let pairs = pairs_key SameName (λ m. m.socket) s (read_on count g) (lets_same_name s).stays (λ m e. read_name count g m) t.lines in
    named_pairs t (read_at s count g l t) s q (subst (Pairs SameName t.lines) (sym (read_lines s count g l t)) pairs) n

-- ---- less is left of the one that sent them

abbrev SameTaken : Line → Line → Type 0
SameTaken = SameOf (λ l. l.taken)

lets_same_taken : (s : ℕ) → LetsLine s SameTaken
lets_same_taken s = lets_same (λ l. l.taken) s (λ l. refl) (λ place l. refl) (λ place l. refl)

abbrev left_by : Table → Line → Option ℕ → ℕ
left_by t l o = room_by t l o + more_unnamed o

room_most : (o : Option Seat) → room_by_seat o ≤ MOST_BYTES
room_most None = omega arith
room_most (Some c) = omega arith

-- it had no name: more was taken on it, or it has a name now
less_unnamed : (t u : Table) (l m : Line) (n : ℕ) (o : Option ℕ) → m.taken ≡ l.taken + n → 0 < n → n ≤ room_by t l None → left_by u m o < left_by t l None
less_unnamed t u l m n None e some few = omega (arith, e, some, few)
less_unnamed t u l m n (Some q) e some few = let most = room_most (seat_of u q) in omega (arith, most)

-- it has a name: more is spent
less_named : (t u v : Table) (l m : Line) (n q : ℕ) (c : Seat) → seat_of t q ≡ Some c → seat_of v q ≡ Some (S.spends n c) → Rooms v u → 0 < n → n ≤ room_by t l (Some q) →
    left_by u m (Some q) < left_by t l (Some q)
less_named t u v l m n q c e f r some few =
    let before = ap room_by_seat e in
    let read = ap room_by_seat f in
    let behind = r q in
    omega (arith, before, read, behind, some, few)

-- the line at its place is the one read
read_here : (s count : ℕ) (g : Given) (t : Table) (k : ℕ) (l : Line) → slice_get t.lines k ≡ Some l → l.socket ≡ s → slice_get (read_at s count g l t).lines k ≡ Some (read_on count g l)
read_here s count g t k l at e =
    ap (λ (ls : List Line). slice_get ls k) (read_lines s count g l t) ∙ map_at (λ x. if x.socket == s then read_on count g x else x) t.lines k l at
    ∙ ap (λ (b : Bool). Some (if b then read_on count g l else l)) (eq-eqb l.socket s e)

seat_read : (s count : ℕ) (g : Given) (l : Line) (t : Table) (q : ℕ) (c : Seat) → l.name ≡ Some q → seat_of t q ≡ Some c → seat_of (read_at s count g l t) q ≡ Some (S.spends count c)
seat_read s count g l t q c n e =
    ap (λ (o : Option ℕ). seat_of (counted o count (at_line s (read_on count g) t)) q) n ∙ found_key (λ d. d.link.player) q (S.spends count) (λ d e. e) t.seats c e

left_behind : (h : Hearer) (s : ℕ) (bytes : List ℕ) (t : Table) (k : ℕ) (l m : Line) → Differ t.lines → slice_get t.lines k ≡ Some l → l.socket ≡ s → line_of t s ≡ Some l →
    0 < length bytes → length bytes ≤ room_on t l → slice_get (took_with h t s bytes (Some l)).lines k ≡ Some m → left_on (took_with h t s bytes (Some l)) m < left_on t l
left_behind h s bytes t k l m d at e found some few behind = go l.name refl
  where
    n : ℕ
    n = length bytes

    g : Given
    g = given_of l.reader bytes

    v : Table
    v = read_at s n g l t

    u : Table
    u = heard_all h s g v

    same : SameTaken (read_on n g l) m
    same = pair_at SameTaken v.lines u.lines k (read_on n g l) m (lines_heard_all s SameTaken (lets_same_taken s) (λ q from next x w. (refl, refl)) h g v) (read_here s n g t k l at e) behind

    rooms : Rooms v u
    rooms = rooms_spent v u (seats_heard_all SpendsMore hearing_spends h s g v)

    -- it is the one that is found
    name_is : (q : ℕ) → l.name ≡ Some q → m.name ≡ Some q
    name_is q w =
        let so = named_all h s q g v (named_read s q n g l t (l, found, w)) in
        let differ = differ_alike t.lines u.lines (alike_took h t s bytes (Some l)) d in
        let is = found_at (λ x. x.socket) s u.lines k m differ behind (same.0 ∙ (read_name n g l).0 ∙ e) in
        let it : Some m ≡ Some so.0 = sym is ∙ so.1 in
        ap (λ (x : Line). x.name) (let r : m ≡ so.0 = cc in r) ∙ so.2

    seat_less : (q : ℕ) → l.name ≡ Some q → n ≤ room_by t l (Some q) → (o : Option Seat) → seat_of t q ≡ o → left_by u m (Some q) < left_by t l (Some q)
    seat_less q w r None f = (let none = ap room_by_seat f in absurd (omega (arith, none, some, r)))
    seat_less q w r (Some c) f = less_named t u v l m n q c f (seat_read s n g l t q c w f) rooms some r

    go : (o : Option ℕ) → l.name ≡ o → left_on u m < left_on t l
    go None w =
        subst (λ (o : Option ℕ). left_by u m m.name < left_by t l o) (sym w)
        (less_unnamed t u l m n m.name (same.1 ∙ ap (λ (o : Option ℕ). (counted_on o n l).taken) w) some (subst (λ (o : Option ℕ). n ≤ room_by t l o) w few))
    go (Some q) w =
        let less = seat_less q w (subst (λ (o : Option ℕ). n ≤ room_by t l o) w few) (seat_of t q) refl in
        subst (λ (o : Option ℕ). left_by u m m.name < left_by t l o) (sym w) (subst (λ (o : Option ℕ). left_by u m o < left_by t l (Some q)) (sym (name_is q w)) less)

pub took_left : (h : Hearer) (s : ℕ) (bytes : List ℕ) (t : Table) (k : ℕ) (l m : Line) → Differ t.lines → slice_get t.lines k ≡ Some l → l.socket ≡ s → slice_get (took_on h s bytes t).lines k ≡ Some m →
    0 < length bytes → length bytes ≤ room_on t l → left_on (took_on h s bytes t) m < left_on t l
took_left h s bytes t k l m d at e behind some few =
    let found : line_of t s ≡ Some l = found_at (λ x. x.socket) s t.lines k l d at e in
    subst (λ (o : Option Line). slice_get (took_with h t s bytes o).lines k ≡ Some m → left_on (took_with h t s bytes o) m < left_on t l) (sym found)
    (left_behind h s bytes t k l m d at e found some few) behind
