-- Changed: a table of which one line or seat is changed is as sound as it was.
use Rattle.std.proofs.Common.{◌≡◌, ℕ, zero, suc, ◌+◌, ◌*◌, ◌≤◌, Bool, true, false, refl, sym, ap, subst, ◌∙◌, List, [], ◌∷◌, ◌++◌, arith, length, get_or, slice_set, nat_lt}
use Rattle.std.specs.Prelude.{Option, Some, None, ◌==◌, cond, drop, find, is_some, not, map, take, slice_get, if◌then◌else◌}
use Rattle.std.specs.List.{count_by}
use Rattle.std.proofs.lemmas.Bool.{false≢true, ltb-true}
use Rattle.std.proofs.lemmas.Option.{get_or_from_slice_get}
use Rattle.std.proofs.lemmas.List.{length-map, length-set}
use Rattle.plain_lemmas.proofs.Each.{each_set}
use Rattle.plain_lemmas.proofs.Tests.{of_chosen}
use Rattle.definitions.specs.Lists.{EachIs}
use Rattle.socket_lines.specs.Lines.{doomed, named_line, is_named, moved_to, unnamed_room}
use Rattle.socket_lines.specs.Asks.{is_asked}
use Rattle.socket_lines.specs.Seats as S
use Rattle.wire_frames.specs.Streams.{Given}
use Rattle.loop_rules.specs.Hearing.{ousted, counted_on, read_on}
use Rattle.socket_table.specs.Finding.{IsAt, IsSeatAt}
use Rattle.socket_lines.specs.declared.limits.TheConstants.{MOST_BYTES, HELLO_BYTES}
use Rattle.socket_lines.specs.declared.line.Line.{Line}
use Rattle.socket_lines.specs.declared.seat.Seat.{Seat}
use Rattle.loop_rules.specs.Tables.{Table, at_line, at_seat}
use Rattle.loop_rules.specs.Told.{HasNone, DiffersBy}
use Rattle.loop_rules.proofs.Alike.{Same, Alike, alike_map, differ_alike}
use Rattle.socket_table.specs.Sound.{IsFitLine, IsFitSeat, HasLineRoom, IsSound, is_fine, is_dialled_for, spent_by, spent_of}
use Rattle.socket_list.proofs.Lists.{each_at, each_mapped, whole_written}
use Rattle.socket_list.proofs.Keys.{put_at}
use Rattle.socket_list.proofs.Pairs.{count_cons}
use Rattle.socket_list.proofs.Counting.{count_alike, length_alike}
use Rattle.socket_list.proofs.OneLine.{alike_set}
use Rattle.socket_table.proofs.Counting.{fine_before, dialled_before}

-- lines that are alike have as much room
pub room_alike : (t u : Table) (room : ℕ) → Alike t.lines u.lines → u.seats ≡ t.seats → u.accepted ≡ t.accepted → HasLineRoom t room → HasLineRoom u room
room_alike t u room a e n r =
    let fine = count_alike is_fine fine_before t.lines u.lines a in
    let long = length_alike t.lines u.lines a in
    let acc = r.accepted in
    let few = r.few in
    let old_fine = r.fine in
    let old_room = r.room in
    record {
      accepted = omega (arith, acc, n);
      fine = omega (arith, fine, old_fine, n);
      dialled = λ q. (let d = count_alike (is_dialled_for q) (dialled_before q) t.lines u.lines a in let o = r.dialled q in omega (arith, d, o));
      few = (let s = ap (λ (x : List Seat). count_by (λ c. c.is_dialled) x) e in omega (arith, few, long, s));
      room = (let s = ap (λ (x : List Seat). length x) e in omega (arith, old_room, s));
    }

-- a table with such lines
pub sound_alike : (t u : Table) (a b : ℕ) → Alike t.lines u.lines → u.seats ≡ t.seats → u.accepted ≡ t.accepted → u.waiting ≡ t.waiting → EachIs (IsFitLine t.seats) u.lines → IsSound t a b → IsSound u a b
sound_alike t u a b k e n w f s = record {
  sockets = differ_alike t.lines u.lines k s.sockets;
  players = subst (DiffersBy (λ c. c.link.player)) (sym e) s.players;
  lines = subst (λ (x : List Seat). EachIs (IsFitLine x) u.lines) (sym e) f;
  seats = subst (EachIs IsFitSeat) (sym e) s.seats;
  room = room_alike t u a k e n s.room;
  waiting = (let x = ap (λ ys. length ys) w in let y = s.waiting in omega (arith, x, y));
  frames = s.frames;
}

-- one line is changed at its place
pub sound_line : (t : Table) (a b k : ℕ) (l m : Line) → slice_get t.lines k ≡ Some l → Same l m → IsFitLine t.seats m → IsSound t a b → IsSound (record t { lines = slice_set t.lines k m }) a b
sound_line t a b k l m g k2 f s =
    sound_alike t (record t { lines = slice_set t.lines k m }) a b (alike_set t.lines k l m g k2) refl refl refl (each_set (IsFitLine t.seats) t.lines k m s.lines f) s

pub line_put : (t : Table) (a b k socket : ℕ) (f : Line → Line) (l m : Line) → IsSound t a b → slice_get t.lines k ≡ Some l → l.socket ≡ socket → m ≡ f l → record t { lines = slice_set t.lines k m } ≡ at_line socket f t
line_put t a b k socket f l m s g e w =
    ap (λ (ls : List Line). record t { lines = ls }) (ap (slice_set t.lines k) w ∙ put_at (λ x. x.socket) socket f t.lines k l s.sockets g e)

-- one line is changed at its place by a change of that kind: the table is sound, and is the one that the rules name
pub line_changed : (t v : Table) (a b k socket : ℕ) (f : Line → Line) (x m : Line) → t ≡ v → IsSound t a b → IsAt v k socket → x ≡ get_or t.lines k x → m ≡ f x →
    ((l : Line) → Same l (f l)) → ((l : Line) → slice_get v.lines k ≡ Some l → IsFitLine t.seats l → IsFitLine t.seats (f l)) →
    IsSound (record t { lines = slice_set t.lines k m }) a b × (record t { lines = slice_set t.lines k m } ≡ at_line socket f v)
line_changed t v a b k socket f x m e s at i c kind fit =
    let l = at.0 in
    let g : slice_get t.lines k ≡ Some l = ap (λ (w : Table). slice_get w.lines k) e ∙ at.1 in
    let it : x ≡ l = i ∙ get_or_from_slice_get t.lines k l x g in
    let made : m ≡ f l = c ∙ ap f it in (
      sound_line t a b k l m g (subst (Same l) (sym made) (kind l)) (subst (IsFitLine t.seats) (sym made) (fit l at.1 (each_at (IsFitLine t.seats) t.lines k l s.lines g))) s,
      line_put t a b k socket f l m s g at.2 made ∙ ap (at_line socket f) e,
    )

-- ---- seats

-- the seat behind a change is the same player's, no less is spent of it, and it was dialled as before
pub record SameSeat (c d : Seat) : Type 0 where
  pub link : d.link ≡ c.link
  pub spent : c.spent ≤ d.spent
  pub dialled : d.is_dialled ≡ c.is_dialled

-- no less is spent of anyone
abbrev pub Rises : List Seat → List Seat → Type 0
Rises cs ds = (n : Option ℕ) → spent_of cs n ≤ spent_of ds n

pub rises_set : (cs : List Seat) (k : ℕ) (c d : Seat) → slice_get cs k ≡ Some c → d.link ≡ c.link → c.spent ≤ d.spent → Rises cs (slice_set cs k d)
rises_set cs k c d g e s None = omega arith
rises_set cs k c d g e s (Some q) = go cs k g
  where
    first : (x : Seat) (xs : List Seat) (b : Bool) → x.spent ≤ d.spent →
        spent_by (if b then Some x else find (λ y. y.link.player == q) xs) ≤ spent_by (if b then Some d else find (λ y. y.link.player == q) xs)
    first x xs true r = r
    first x xs false r = omega arith

    both : (x : Seat) (xs ys : List Seat) (b : Bool) → spent_by (find (λ y. y.link.player == q) xs) ≤ spent_by (find (λ y. y.link.player == q) ys) →
        spent_by (if b then Some x else find (λ y. y.link.player == q) xs) ≤ spent_by (if b then Some x else find (λ y. y.link.player == q) ys)
    both x xs ys true r = omega arith
    both x xs ys false r = r

    go : (xs : List Seat) (j : ℕ) → slice_get xs j ≡ Some c → spent_of xs (Some q) ≤ spent_of (slice_set xs j d) (Some q)
    go [] j h = omega arith
    go (x ∷ xs) zero h =
        let w : x ≡ c = cc in
        let r = first x xs (x.link.player == q) (subst (λ (y : Seat). y.spent ≤ d.spent) (sym w) s) in
        subst (λ (b : Bool). spent_by (find (λ y. y.link.player == q) (x ∷ xs)) ≤ spent_by (if b then Some d else find (λ y. y.link.player == q) xs))
        (ap (λ l. l.player == q) (ap (λ (y : Seat). y.link) w ∙ sym e)) r
    go (x ∷ xs) (suc j) h = both x xs (slice_set xs j d) (x.link.player == q) (go xs j h)

pub each_rises : (cs ds : List Seat) (ls : List Line) → Rises cs ds → EachIs (IsFitLine cs) ls → EachIs (IsFitLine ds) ls
each_rises cs ds [] r e = tt
each_rises cs ds (l ∷ ls) r e =
    let read = e.0.read in
    let more = r l.name in
    (record { taken = e.0.taken; read = omega (arith, read, more); sending = e.0.sending; dialled = e.0.dialled }, each_rises cs ds ls r e.1)

none_key : (n : ℕ) (cs : List Seat) (k : ℕ) (c d : Seat) → HasNone (λ x. x.link.player) n cs → slice_get cs k ≡ Some c → d.link ≡ c.link → HasNone (λ x. x.link.player) n (slice_set cs k d)
none_key n [] k c d h g e = tt
none_key n (x ∷ xs) zero c d h g e = (λ q. h.0 (ap (λ l. l.player) (ap (λ (y : Seat). y.link) (let w : x ≡ c = cc in w) ∙ sym e) ∙ q), h.1)
none_key n (x ∷ xs) (suc k) c d h g e = (h.0, none_key n xs k c d h.1 g e)

pub differ_seats : (cs : List Seat) (k : ℕ) (c d : Seat) → DiffersBy (λ x. x.link.player) cs → slice_get cs k ≡ Some c → d.link ≡ c.link → DiffersBy (λ x. x.link.player) (slice_set cs k d)
differ_seats [] k c d h g e = tt
differ_seats (x ∷ xs) zero c d h g e =
    (subst (λ (n : ℕ). HasNone (λ y. y.link.player) n xs) (ap (λ l. l.player) (ap (λ (y : Seat). y.link) (let w : x ≡ c = cc in w) ∙ sym e)) h.0, h.1)
differ_seats (x ∷ xs) (suc k) c d h g e = (none_key x.link.player xs k c d h.0 g e, differ_seats xs k c d h.1 g e)

count_set : (cs : List Seat) (k : ℕ) (c d : Seat) → slice_get cs k ≡ Some c → d.is_dialled ≡ c.is_dialled → count_by (λ x. x.is_dialled) (slice_set cs k d) ≡ count_by (λ x. x.is_dialled) cs
count_set [] k c d g e = refl
count_set (x ∷ xs) zero c d g e =
    let a = count_cons (λ y. y.is_dialled) x xs in
    let b = count_cons (λ y. y.is_dialled) d xs in
    let w = ap {B = ℕ} (λ (t : Bool). cond t 1 0) (e ∙ ap (λ (y : Seat). y.is_dialled) (let w : x ≡ c = cc in sym w)) in
    omega (arith, a, b, w)
count_set (x ∷ xs) (suc k) c d g e =
    let a = count_cons (λ y. y.is_dialled) x xs in
    let b = count_cons (λ y. y.is_dialled) x (slice_set xs k d) in
    let r = count_set xs k c d g e in
    omega (arith, a, b, r)

-- one seat is changed at its place
pub sound_seat : (t : Table) (a b k : ℕ) (c d : Seat) → slice_get t.seats k ≡ Some c → SameSeat c d → IsFitSeat d → IsSound t a b → IsSound (record t { seats = slice_set t.seats k d }) a b
sound_seat t a b k c d g e f s =
    let few = s.room.few in
    let room = s.room.room in
    let n = count_set t.seats k c d g e.dialled in
    let m = length-set t.seats k d in
    record {
      sockets = s.sockets;
      players = differ_seats t.seats k c d s.players g e.link;
      lines = each_rises t.seats (slice_set t.seats k d) t.lines (rises_set t.seats k c d g e.link e.spent) s.lines;
      seats = each_set IsFitSeat t.seats k d s.seats f;
      room = record { accepted = s.room.accepted; fine = s.room.fine; dialled = s.room.dialled; few = omega (arith, few, n); room = omega (arith, room, m) };
      waiting = s.waiting;
      frames = s.frames;
    }

-- one seat is changed at its place by a change of that kind
pub seat_changed : (t v : Table) (a b k q : ℕ) (f : Seat → Seat) (x m : Seat) → t ≡ v → IsSound t a b → IsSeatAt v.seats q (Some k) → x ≡ get_or t.seats k x → m ≡ f x →
    ((c : Seat) → SameSeat c (f c)) → ((c : Seat) → slice_get v.seats k ≡ Some c → IsFitSeat c → IsFitSeat (f c)) →
    IsSound (record t { seats = slice_set t.seats k m }) a b × (record t { seats = slice_set t.seats k m } ≡ at_seat q f v)
seat_changed t v a b k q f x m e s at i c kind fit =
    let l = at.0 in
    let g : slice_get t.seats k ≡ Some l = ap (λ (w : Table). slice_get w.seats k) e ∙ at.1 in
    let it : x ≡ l = i ∙ get_or_from_slice_get t.seats k l x g in
    let made : m ≡ f l = c ∙ ap f it in (
      sound_seat t a b k l m g (subst (SameSeat l) (sym made) (kind l)) (subst IsFitSeat (sym made) (fit l at.1 (each_at IsFitSeat t.seats k l s.seats g))) s,
      ap (λ (cs : List Seat). record t { seats = cs }) (ap (slice_set t.seats k) made ∙ put_at (λ y. y.link.player) q f t.seats k l s.players g at.2) ∙ ap (at_seat q f) e,
    )

-- the seats' bytes are no more than they may be
pub spent_few : (t v : Table) (a b k : ℕ) (c : Seat) → t ≡ v → IsSound t a b → slice_get v.seats k ≡ Some c → IsFitSeat c
spent_few t v a b k c e s g = each_at IsFitSeat t.seats k c s.seats (ap (λ (w : Table). slice_get w.seats k) e ∙ g)

-- what is so where a HELLO named a line that had no name
pub fit_named : (cs : List Seat) (q from next : ℕ) (l : Line) → l.name ≡ None → IsFitLine cs l → IsFitLine cs (named_line q from next l)
fit_named cs q from next l e f =
    let r = f.read in
    let z = ap (spent_of cs) e in
    record { taken = f.taken; read = omega (arith, r, z); sending = f.sending; dialled = f.dialled }

pub names_same : (taken from : ℕ) (c : Seat) → SameSeat c (S.names taken from c)
names_same taken from c = record { link = refl; spent = omega arith; dialled = refl }

-- all lines are changed alike
pub sound_map : (t : Table) (a b : ℕ) (f : Line → Line) → ((l : Line) → Same l (f l)) → ((l : Line) → IsFitLine t.seats l → IsFitLine t.seats (f l)) → IsSound t a b → IsSound (record t { lines = map f t.lines }) a b
sound_map t a b f k fit s = sound_alike t (record t { lines = map f t.lines }) a b (alike_map f k t.lines) refl refl refl (each_mapped (IsFitLine t.seats) f fit t.lines s.lines) s

pub fit_ousted : (cs : List Seat) (q : ℕ) (l : Line) → IsFitLine cs l → IsFitLine cs (ousted q l)
fit_ousted cs q l f = of_chosen (IsFitLine cs) (is_named q l) (doomed l) l (record { taken = f.taken; read = f.read; sending = f.sending; dialled = f.dialled }) f

pub fit_names : (taken from : ℕ) (c : Seat) → taken ≤ 56 → S.is_spent c ≡ false → IsFitSeat (S.names taken from c)
fit_names taken from c few e = go (nat_lt c.spent MOST_BYTES) refl e
  where
    go : (b : Bool) → nat_lt c.spent MOST_BYTES ≡ b → not b ≡ false → IsFitSeat (S.names taken from c)
    go true w n = (let x = ltb-true c.spent MOST_BYTES w in omega (arith, x, few))
    go false w n = absurd (false≢true (sym n))

-- ---- all lines, written over in their list

pub all_lines : (t v : Table) (a b : ℕ) (f : Line → Line) (ms : List Line) (n : ℕ) → t ≡ v → IsSound t a b → ((l : Line) → Same l (f l)) → ((l : Line) → IsFitLine t.seats l → IsFitLine t.seats (f l)) →
    ms ≡ map f t.lines → n ≡ length t.lines →
    IsSound (record t { lines = take n (ms ++ drop (length ms) t.lines) }) a b × (record t { lines = take n (ms ++ drop (length ms) t.lines) } ≡ record v { lines = map f v.lines })
all_lines t v a b f ms n e s kind fit m k =
    let whole = whole_written t.lines ms n (ap (λ (x : List Line). length x) m ∙ length-map t.lines f) k ∙ m in (
      subst (λ (x : List Line). IsSound (record t { lines = x }) a b) (sym whole) (sound_map t a b f kind fit s),
      ap (λ (x : List Line). record t { lines = x }) whole ∙ ap (λ (w : Table). record w { lines = map f w.lines }) e,
    )

-- ---- WANT frames

moved_is : (P : Line → Type 0) (want : ℕ) (l : Line) → P (record l { jump = Some want }) → P (record l { cursor = want }) → P (moved_to want l)
moved_is P want l x y = go (is_some l.sending)
  where
    go : (b : Bool) → P (if b then record l { jump = Some want } else record l { cursor = want })
    go true = x
    go false = y

pub fit_moved : (cs : List Seat) (want : ℕ) (l : Line) → IsFitLine cs l → IsFitLine cs (moved_to want l)
fit_moved cs want l f = moved_is (IsFitLine cs) want l (record { taken = f.taken; read = f.read; sending = f.sending; dialled = f.dialled }) (record { taken = f.taken; read = f.read; sending = f.sending; dialled = f.dialled })

-- the seat that was read at the place
pub seat_read : (t v : Table) (k q : ℕ) (x : Seat) → t ≡ v → IsSeatAt v.seats q (Some k) → x ≡ get_or t.seats k x → slice_get v.seats k ≡ Some x
seat_read t v k q x e at i =
    at.1 ∙ ap (λ (c : Seat). Some c) (sym (i ∙ get_or_from_slice_get t.seats k at.0 x (ap (λ (w : Table). slice_get w.seats k) e ∙ at.1)))

-- ---- bytes of a player

pub fit_spends : (count : ℕ) (c : Seat) → count ≤ S.room_of c → IsFitSeat c → IsFitSeat (S.spends count c)
fit_spends count c r f = omega (arith, r, f)

-- ---- bytes on a socket

pub fit_read : (cs : List Seat) (count : ℕ) (g : Given) (l : Line) → g.reader.place ≤ l.reader.place + count → IsFitLine cs l → (l.name ≡ None → count ≤ unnamed_room l) →
    ((q : ℕ) → l.name ≡ Some q → l.reader.place + count ≤ l.taken + spent_of cs (Some q)) → IsFitLine cs (read_on count g l)
fit_read cs count g l p f t r = go l.name refl
  where
    go : (o : Option ℕ) → l.name ≡ o → IsFitLine cs (record (counted_on o count l) { reader = g.reader })
    go None e =
        let few = t e in
        let taken = f.taken in
        let read = f.read in
        let none = ap (spent_of cs) e in
        record { taken = omega (arith, few, taken); read = omega (arith, p, read, none); sending = f.sending; dialled = f.dialled }
    go (Some q) e =
        let more = r q e in
        let same = ap (spent_of cs) e in
        record { taken = f.taken; read = omega (arith, p, more, same); sending = f.sending; dialled = f.dialled }

-- the line that was read at the place is the one that contracts see there
pub line_read : (t v : Table) (k s : ℕ) (x l : Line) → t ≡ v → IsAt v k s → x ≡ get_or t.lines k x → slice_get v.lines k ≡ Some l → x ≡ l
line_read t v k s x l e at i g = i ∙ get_or_from_slice_get t.lines k l x (ap (λ (w : Table). slice_get w.lines k) e ∙ g)

pub line_fits : (t v : Table) (a b k : ℕ) (l : Line) → t ≡ v → IsSound t a b → slice_get v.lines k ≡ Some l → IsFitLine v.seats l
line_fits t v a b k l e s g =
    subst (λ (cs : List Seat). IsFitLine cs l) (ap (λ (w : Table). w.seats) e) (each_at (IsFitLine t.seats) t.lines k l s.lines (ap (λ (w : Table). slice_get w.lines k) e ∙ g))

-- no more is spent of anyone than may be
pub spent_bounded : (cs : List Seat) (n : Option ℕ) → EachIs IsFitSeat cs → spent_of cs n ≤ MOST_BYTES + HELLO_BYTES
spent_bounded cs None e = omega arith
spent_bounded cs (Some q) e = go cs e
  where
    pick : (c : Seat) (ds : List Seat) (b : Bool) → IsFitSeat c → spent_by (find (λ d. d.link.player == q) ds) ≤ MOST_BYTES + HELLO_BYTES →
        spent_by (if b then Some c else find (λ d. d.link.player == q) ds) ≤ MOST_BYTES + HELLO_BYTES
    pick c ds true f r = f
    pick c ds false f r = r

    go : (ds : List Seat) → EachIs IsFitSeat ds → spent_of ds (Some q) ≤ MOST_BYTES + HELLO_BYTES
    go [] f = omega arith
    go (c ∷ ds) f = pick c ds (c.link.player == q) f.0 (go ds f.1)

-- how far a line was read
pub place_few : (t v : Table) (a b k : ℕ) (l : Line) → t ≡ v → IsSound t a b → slice_get v.lines k ≡ Some l → l.reader.place ≤ MOST_BYTES + 2 * HELLO_BYTES
place_few t v a b k l e s g =
    let f = line_fits t v a b k l e s g in
    let taken = f.taken in
    let read = f.read in
    let spent = spent_bounded v.seats l.name (subst (λ (w : Table). EachIs IsFitSeat w.seats) e s.seats) in
    omega (arith, taken, read, spent)

pub line_seen : (t v : Table) (k : ℕ) (x l : Line) → t ≡ v → x ≡ get_or t.lines k x → slice_get v.lines k ≡ Some l → x ≡ l
line_seen t v k x l e i g = i ∙ get_or_from_slice_get t.lines k l x (ap (λ (w : Table). slice_get w.lines k) e ∙ g)

-- ---- places to be asked for

pub asks_same : (next : ℕ) (c : Seat) → SameSeat c (S.asks next c)
asks_same next c = go (is_asked c.asks next)
  where
    go : (b : Bool) → SameSeat c (if b then c else S.is_asked_for next c)
    go true = record { link = refl; spent = omega arith; dialled = refl }
    go false = record { link = refl; spent = omega arith; dialled = refl }

pub fit_asks : (next : ℕ) (c : Seat) → IsFitSeat c → IsFitSeat (S.asks next c)
fit_asks next c f = go (is_asked c.asks next)
  where
    go : (b : Bool) → IsFitSeat (if b then c else S.is_asked_for next c)
    go true = f
    go false = f
