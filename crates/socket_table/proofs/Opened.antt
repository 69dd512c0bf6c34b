-- Opened: sockets that open, and what a poll does to a table.
use Rattle.std.proofs.Common.{◌≡◌, ℕ, zero, suc, ◌+◌, ◌<◌, ◌≤◌, Bool, true, false, refl, sym, ap, subst, ◌∙◌, List, [], ◌∷◌, ◌++◌, arith, length, get_or, slice_set}
use Rattle.std.specs.Prelude.{Option, Some, None, ◌==◌, ◌&&◌, ◌||◌, cond, drop, find, map, take, slice_get, if◌then◌else◌}
use Rattle.std.specs.List.{count_by, list_any}
use Rattle.std.proofs.lemmas.Bool.{eqb-true, false≢true, or_parts}
use Rattle.std.proofs.lemmas.List.Sums.{count_by-le-length}
use Rattle.std.proofs.lemmas.Option.{get_or_from_slice_get}
use Rattle.std.proofs.lemmas.List.{length-map, length-set}
use Rattle.plain_lemmas.proofs.Each.{each_push, each_set}
use Rattle.plain_lemmas.proofs.Tests.{of_chosen}
use Rattle.definitions.specs.Lists.{EachIs}
use Rattle.socket_lines.specs.declared.limits.TheConstants.{MOST_ACCEPTED}
use Rattle.socket_lines.specs.declared.line.Line.{Line}
use Rattle.socket_lines.specs.declared.seat.Seat.{Seat}
use Rattle.socket_lines.specs.Seats as S
use Rattle.socket_lines.specs.Lines.{accepted_line, dialled_line, is_player, serves, woken}
use Rattle.loop_rules.specs.Tables.{Table, at_seat, is_served}
use Rattle.loop_rules.specs.Told.{HasNone, DiffersBy, IsNotIn}
use Rattle.loop_rules.proofs.Told.{differ_last}
use Rattle.socket_table.specs.declared.table.TheConstants.{MOST_LINES}
use Rattle.socket_table.specs.Finding.{IsSeatAt}
use Rattle.socket_table.specs.Opening.{HasDialRoom}
use Rattle.socket_table.specs.Sound.{IsFitLine, IsFitSeat, IsSound, is_fine, is_dialled_for, spent_by, spent_of}
use Rattle.socket_list.proofs.Lists.{each_at, whole_written}
use Rattle.socket_list.proofs.Keys.{put_at}
use Rattle.socket_list.proofs.Pairs.{count_cons}
use Rattle.socket_list.proofs.Counting.{count_last, length_more}
use Rattle.socket_table.proofs.Changed.{each_rises, rises_set, differ_seats}

-- ---- a socket that was listed

pub fit_woken : (cs : List Seat) (s : ℕ) (l : Line) → IsFitLine cs l → IsFitLine cs (if l.socket == s then woken l else l)
fit_woken cs s l f = of_chosen (IsFitLine cs) (l.socket == s) (woken l) l (record { taken = f.taken; read = f.read; sending = f.sending; dialled = f.dialled }) f

-- ---- a dial

no_fewer : (cs : List Seat) (k : ℕ) (d : Seat) → d.is_dialled ≡ true → count_by (λ c. c.is_dialled) cs ≤ count_by (λ c. c.is_dialled) (slice_set cs k d)
no_fewer [] k d e = omega arith
no_fewer (c ∷ cs) zero d e =
    let a = count_cons (λ x. x.is_dialled) c cs in
    let b = count_cons (λ x. x.is_dialled) d cs in
    let one : cond d.is_dialled 1 0 ≡ 1 = ap {B = ℕ} (λ (t : Bool). cond t 1 0) e in
    let few = at_most c.is_dialled in
    omega (arith, a, b, one, few)
  where
    at_most : (b : Bool) → cond b 1 0 ≤ 1
    at_most true = omega arith
    at_most false = omega arith
no_fewer (c ∷ cs) (suc k) d e =
    let a = count_cons (λ x. x.is_dialled) c cs in
    let b = count_cons (λ x. x.is_dialled) c (slice_set cs k d) in
    let r = no_fewer cs k d e in
    omega (arith, a, b, r)

pub dial_changed : (t v : Table) (a b k q : ℕ) (x m : Seat) → t ≡ v → IsSound t a b → IsSeatAt v.seats q (Some k) → x ≡ get_or t.seats k x → m ≡ S.dials x →
    IsSound (record t { seats = slice_set t.seats k m }) a b × (record t { seats = slice_set t.seats k m } ≡ at_seat q S.dials v)
dial_changed t v a b k q x m e s at i c =
    let l = at.0 in
    let g : slice_get t.seats k ≡ Some l = ap (λ (w : Table). slice_get w.seats k) e ∙ at.1 in
    let it : x ≡ l = i ∙ get_or_from_slice_get t.seats k l x g in
    let made : m ≡ S.dials l = c ∙ ap S.dials it in
    let more = no_fewer t.seats k (S.dials l) refl in
    let long = length-set t.seats k (S.dials l) in
    let few = s.room.few in
    let room = s.room.room in (
      subst (λ (d : Seat). IsSound (record t { seats = slice_set t.seats k d }) a b) (sym made) (record {
        sockets = s.sockets;
        players = differ_seats t.seats k l (S.dials l) s.players g refl;
        lines = each_rises t.seats (slice_set t.seats k (S.dials l)) t.lines (rises_set t.seats k l (S.dials l) g refl (omega arith)) s.lines;
        seats = each_set IsFitSeat t.seats k (S.dials l) s.seats (each_at IsFitSeat t.seats k l s.seats g);
        room = record { accepted = s.room.accepted; fine = s.room.fine; dialled = s.room.dialled; few = omega (arith, few, more); room = omega (arith, room, long) };
        waiting = s.waiting;
        frames = s.frames;
      }),
      ap (λ (cs : List Seat). record t { seats = cs }) (ap (slice_set t.seats k) made ∙ put_at (λ y. y.link.player) q S.dials t.seats k l s.players g at.2) ∙ ap (at_seat q S.dials) e,
    )

-- ---- a socket opens

pub sound_open : (t : Table) (a b c s : ℕ) (wrong : Bool) (n : ℕ) (ms : List Line) → IsSound t a b → a ≤ c → IsNotIn s t.lines → length t.lines < MOST_LINES → ms ≡ t.lines ++ accepted_line s wrong ∷ [] →
    t.accepted ≤ n → n ≤ MOST_ACCEPTED → (wrong ≡ false → t.accepted + 1 ≤ n) → IsSound (record t { lines = ms; accepted = n }) c b
sound_open t a b c s wrong n ms w cap new few e low most more = subst (λ (ls : List Line). IsSound (record t { lines = ls; accepted = n }) c b) (sym e) (record {
  sockets = differ_last t.lines l new w.sockets;
  players = w.players;
  lines = each_push (IsFitLine t.seats) t.lines l w.lines (record { taken = omega arith; read = omega arith; sending = tt; dialled = tt });
  seats = w.seats;
  room = record {
    accepted = most;
    fine = fine wrong more;
    dialled = λ q. (let d = count_last (is_dialled_for q) t.lines l in let old = w.room.dialled q in omega (arith, d, old));
    few = (let m = length_more t.lines l in omega (arith, m, few));
    room = (let r = w.room.room in omega (arith, r, cap));
  };
  waiting = w.waiting;
  frames = w.frames;
})
  where
    l : Line
    l = accepted_line s wrong

    fine : (b : Bool) → (b ≡ false → t.accepted + 1 ≤ n) → count_by is_fine (t.lines ++ accepted_line s b ∷ []) ≤ n
    fine true k =
        let m = count_last is_fine t.lines (accepted_line s true) in
        let old = w.room.fine in
        omega (arith, m, old, low)
    fine false k =
        let m = count_last is_fine t.lines (accepted_line s false) in
        let old = w.room.fine in
        let one = k refl in
        omega (arith, m, old, one)

-- ---- a poll

-- each player may be dialled again
link_rests : (cs : List Seat) (n : ℕ) → HasNone (λ c. c.link.player) n cs → HasNone (λ c. c.link.player) n (map S.rests cs)
link_rests [] n h = tt
link_rests (c ∷ cs) n h = (h.0, link_rests cs n h.1)

differ_rests : (cs : List Seat) → DiffersBy (λ c. c.link.player) cs → DiffersBy (λ c. c.link.player) (map S.rests cs)
differ_rests [] d = tt
differ_rests (c ∷ cs) d = (link_rests cs c.link.player d.0, differ_rests cs d.1)

fit_rests : (cs : List Seat) → EachIs IsFitSeat cs → EachIs IsFitSeat (map S.rests cs)
fit_rests [] f = tt
fit_rests (c ∷ cs) f = (f.0, fit_rests cs f.1)

spent_rests : (cs : List Seat) (n : Option ℕ) → spent_of cs n ≤ spent_of (map S.rests cs) n
spent_rests cs None = omega arith
spent_rests cs (Some q) = go cs
  where
    pick : (c : Seat) (xs ys : List Seat) (b : Bool) → spent_by (find (λ d. d.link.player == q) xs) ≤ spent_by (find (λ d. d.link.player == q) ys) →
        spent_by (if b then Some c else find (λ d. d.link.player == q) xs) ≤ spent_by (if b then Some (S.rests c) else find (λ d. d.link.player == q) ys)
    pick c xs ys true r = omega arith
    pick c xs ys false r = r

    go : (ds : List Seat) → spent_of ds (Some q) ≤ spent_of (map S.rests ds) (Some q)
    go [] = omega arith
    go (d ∷ ds) = pick d ds (map S.rests ds) (d.link.player == q) (go ds)

pub sound_rests : (t : Table) (a b : ℕ) → length t.lines ≤ MOST_LINES → IsSound t a b → IsSound (record t { seats = map S.rests t.seats }) a b
sound_rests t a b few s = record {
  sockets = s.sockets;
  players = differ_rests t.seats s.players;
  lines = each_rises t.seats (map S.rests t.seats) t.lines (spent_rests t.seats) s.lines;
  seats = fit_rests t.seats s.seats;
  room = record {
    accepted = s.room.accepted;
    fine = s.room.fine;
    dialled = s.room.dialled;
    few = omega (arith, few);
    room = (let n = length-map t.seats S.rests in let r = s.room.room in omega (arith, n, r));
  };
  waiting = s.waiting;
  frames = s.frames;
}

pub all_seats : (t v : Table) (a b : ℕ) (ms : List Seat) (n : ℕ) → t ≡ v → IsSound t a b → length v.lines ≤ MOST_LINES → ms ≡ map S.rests t.seats → n ≡ length t.seats →
    IsSound (record t { seats = take n (ms ++ drop (length ms) t.seats) }) a b × (record t { seats = take n (ms ++ drop (length ms) t.seats) } ≡ record v { seats = map S.rests v.seats })
all_seats t v a b ms n e s few m k =
    let whole = whole_written t.seats ms n (ap (λ (x : List Seat). length x) m ∙ length-map t.seats S.rests) k ∙ m in
    let same = ap (λ (w : Table). length w.lines) e in (
      subst (λ (x : List Seat). IsSound (record t { seats = x }) a b) (sym whole) (sound_rests t a b (omega (arith, few, same)) s),
      ap (λ (x : List Seat). record t { seats = x }) whole ∙ ap (λ (w : Table). record w { seats = map S.rests w.seats }) e,
    )

-- ---- a dial, and then its line

one_more_dialled : (cs : List Seat) (k : ℕ) (c d : Seat) → slice_get cs k ≡ Some c → c.is_dialled ≡ false → d.is_dialled ≡ true → count_by (λ x. x.is_dialled) (slice_set cs k d) ≡ count_by (λ x. x.is_dialled) cs + 1
one_more_dialled [] k c d g e f = absurd (cc)
one_more_dialled (x ∷ xs) zero c d g e f =
    let a = count_cons (λ y. y.is_dialled) x xs in
    let b = count_cons (λ y. y.is_dialled) d xs in
    let old : cond x.is_dialled 1 0 ≡ 0 = ap {B = ℕ} (λ (t : Bool). cond t 1 0) (ap (λ (y : Seat). y.is_dialled) (let q : x ≡ c = cc in q) ∙ e) in
    let new : cond d.is_dialled 1 0 ≡ 1 = ap {B = ℕ} (λ (t : Bool). cond t 1 0) f in
    omega (arith, a, b, old, new)
one_more_dialled (x ∷ xs) (suc k) c d g e f =
    let a = count_cons (λ y. y.is_dialled) x xs in
    let b = count_cons (λ y. y.is_dialled) x (slice_set xs k d) in
    let r = one_more_dialled xs k c d g e f in
    omega (arith, a, b, r)

pub dial_room : (t v : Table) (a b k q : ℕ) (c x m : Seat) → t ≡ v → IsSound t a b → IsSeatAt v.seats q (Some k) → x ≡ get_or t.seats k x → m ≡ S.dials x → slice_get v.seats k ≡ Some c → c.is_dialled ≡ false →
    HasDialRoom (record t { seats = slice_set t.seats k m })
dial_room t v a b k q c x m e s at i w g f =
    let h : slice_get t.seats k ≡ Some c = ap (λ (u : Table). slice_get u.seats k) e ∙ g in
    let more = one_more_dialled t.seats k c m h f (ap (λ (d : Seat). d.is_dialled) w) in
    let few = s.room.few in
    omega (arith, more, few)

-- no open socket was dialled for a player whom none serves
none_dialled : (q : ℕ) (ls : List Line) → list_any (serves q) ls ≡ false → count_by (is_dialled_for q) ls ≤ 0
none_dialled q [] e = omega arith
none_dialled q (l ∷ ls) e =
    let p = or_parts (serves q l) (list_any (serves q) ls) e in
    let a = count_cons (is_dialled_for q) l ls in
    let r = none_dialled q ls p.1 in
    let z = no_one l.is_open (is_player l.dialled q) (is_player l.name q) p.0 in
    omega (arith, a, r, z)
  where
    no_one : (o d n : Bool) → (o && (d || n)) ≡ false → cond (o && d) 1 0 ≤ 0
    no_one false d n w = omega arith
    no_one true false n w = omega arith
    no_one true true n w = absurd (false≢true (sym w))

pub sound_dialled : (t v : Table) (a b c s q next : ℕ) (ms : List Line) → t ≡ v → IsSound t a b → a ≤ c → q < 256 → IsNotIn s v.lines → is_served v q ≡ false → HasDialRoom v → ms ≡ t.lines ++ dialled_line s q next ∷ [] →
    IsSound (record t { lines = ms }) c b
sound_dialled t v a b c s q next ms same w cap byte new free room e = subst (λ (ls : List Line). IsSound (record t { lines = ls }) c b) (sym e) (record {
  sockets = differ_last t.lines l (subst (λ (u : Table). IsNotIn s u.lines) (sym same) new) w.sockets;
  players = w.players;
  lines = each_push (IsFitLine t.seats) t.lines l w.lines (record { taken = omega arith; read = omega arith; sending = tt; dialled = byte });
  seats = w.seats;
  room = record {
    accepted = w.room.accepted;
    fine = (let m = count_last is_fine t.lines l in let old = w.room.fine in omega (arith, m, old));
    dialled = λ p. one p (q == p) refl;
    few = (let m = length_more t.lines l in let r = subst HasDialRoom (sym same) room in omega (arith, m, r));
    room = (let r = w.room.room in omega (arith, r, cap));
  };
  waiting = w.waiting;
  frames = w.frames;
})
  where
    l : Line
    l = dialled_line s q next

    one : (p : ℕ) (is : Bool) → (q == p) ≡ is → count_by (is_dialled_for p) (t.lines ++ l ∷ []) ≤ 1
    one p true i =
        let m = count_last (is_dialled_for p) t.lines l in
        let none = none_dialled p t.lines (ap (λ (u : Table). is_served u p) same ∙ ap (is_served v) (sym (eqb-true q p i)) ∙ free) in
        let at_most = one_at_most (is_dialled_for p l) in
        omega (arith, m, none, at_most)
      where
        one_at_most : (x : Bool) → cond x 1 0 ≤ 1
        one_at_most true = omega arith
        one_at_most false = omega arith
    one p false i =
        let m = count_last (is_dialled_for p) t.lines l in
        let old = w.room.dialled p in
        let none : cond (q == p) 1 0 ≡ 0 = ap {B = ℕ} (λ (x : Bool). cond x 1 0) i in
        omega (arith, m, old, none)

-- how much room that takes
pub room_for_line : (t v : Table) (a b : ℕ) → t ≡ v → IsSound t a b → HasDialRoom v → length t.lines < a
room_for_line t v a b e s room =
    let most = count_by-le-length (λ (c : Seat). c.is_dialled) t.seats in
    let r = subst HasDialRoom (sym e) room in
    let cap = s.room.room in
    omega (arith, most, r, cap)
