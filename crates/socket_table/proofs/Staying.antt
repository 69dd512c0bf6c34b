-- Staying: how many sockets stay at a poll.
use Rattle.std.proofs.Common.{◌≡◌, ℕ, zero, suc, ◌+◌, ◌<◌, ◌≤◌, Bool, true, false, refl, sym, ap, subst, ◌∙◌, List, [], ◌∷◌, arith, length, get_or}
use Rattle.std.specs.Prelude.{Option, Some, None, ◌==◌, ◌&&◌, ◌||◌, cond, drop, filter, is_none, map, nat_lt, not, if◌then◌else◌}
use Rattle.std.specs.List.{count_by, fold, list_all}
use Rattle.std.proofs.lemmas.Bool.{and_parts, eq-eqb, lt-ltb, ltb-true, ltb-false, false≢true}
use Rattle.std.proofs.lemmas.List.{drop_more}
use Rattle.std.proofs.lemmas.List.Sums.{length-filter, count_by-le-length}
use Rattle.definitions.specs.Lists.{EachIs}
use Rattle.socket_lines.specs.declared.line.Line.{Line}
use Rattle.socket_lines.specs.declared.seat.Seat.{Seat}
use Rattle.socket_station.specs.declared.answers.Ready.{Ready}
use Rattle.socket_station.specs.declared.answers.Ready.TheVariants.{Opened, Socket as Seems}
use Rattle.socket_lines.specs.declared.limits.TheConstants.{MOST_ACCEPTED}
use Rattle.socket_lines.specs.Seats as S
use Rattle.socket_lines.specs.Lines.{is_player, accepted_line, woken}
use Rattle.loop_rules.specs.After.{listed, opened_on, rested}
use Rattle.loop_rules.proofs.Told.{kept_open, differ_open}
use Rattle.loop_rules.proofs.Alike.{alike_map}
use Rattle.socket_list.specs.Opening.{AreNewTo}
use Rattle.socket_table.specs.declared.table.TheConstants.{MOST_LINES}
use Rattle.loop_rules.specs.Tables.{Table, room_on, asks_shut, at_line, in_lines}
use Rattle.loop_rules.specs.Licence.{all_is_shut}
use Rattle.socket_table.specs.Sound.{IsFitLine, IsByte, IsSound, is_fine, is_dialled_for}
use Rattle.socket_list.proofs.Pairs.{count_cons}
use Rattle.socket_list.proofs.Counting.{count_open, count_two, length_alike, length_more}
use Rattle.socket_list.proofs.OneLine.{woken_same}
use Rattle.socket_list.proofs.Listed.{new_first, new_to_alike, new_to_more, new_to_open}

-- an open socket that was dialled for a player with a number below
abbrev below : ℕ → Option ℕ → Bool
below n None = false
below n (Some q) = nat_lt q n

abbrev is_below : ℕ → Line → Bool
is_below n l = l.is_open && below n l.dialled

below_one_more : (n : ℕ) (o b : Bool) (d : Option ℕ) → (o && below (suc n) d) ≡ true → ((o && below n d) || (o && is_player d n)) ≡ true
below_one_more n false b d e = e
below_one_more n true b None e = e
below_one_more n true b (Some q) e = go (nat_lt q n) refl
  where
    go : (t : Bool) → nat_lt q n ≡ t → (nat_lt q n || (q == n)) ≡ true
    go true w = ap (λ (x : Bool). x || (q == n)) w
    go false w =
        let lt = ltb-true q (suc n) e in
        let le = ltb-false q n w in
        let same : q ≡ n = omega (arith, lt, le) in
        ap (λ (x : Bool). x || (q == n)) w ∙ eq-eqb q n same

each_below : (n : ℕ) (ls : List Line) → EachIs (λ l. is_below (suc n) l ≡ true → (is_below n l || is_dialled_for n l) ≡ true) ls
each_below n [] = tt
each_below n (l ∷ ls) = (λ e. below_one_more n l.is_open true l.dialled e, each_below n ls)

none_below : (ls : List Line) → count_by (is_below zero) ls ≤ 0
none_below [] = omega arith
none_below (l ∷ ls) =
    let a = count_cons (is_below zero) l ls in
    let r = none_below ls in
    let z = no_number l.is_open l.dialled in
    omega (arith, a, r, z)
  where
    no_number : (o : Bool) (d : Option ℕ) → cond (o && below zero d) 1 0 ≤ 0
    no_number false d = omega arith
    no_number true None = omega arith
    no_number true (Some q) = number (nat_lt q zero) refl
      where
        number : (b : Bool) → nat_lt q zero ≡ b → cond b 1 0 ≤ 0
        number true e = (let lt = ltb-true q zero e in absurd (omega (arith, lt)))
        number false e = omega arith

-- no more than one for each number
few_below : (n : ℕ) (ls : List Line) → ((q : ℕ) → count_by (is_dialled_for q) ls ≤ 1) → count_by (is_below n) ls ≤ n
few_below zero ls one = none_below ls
few_below (suc n) ls one =
    let two = count_two (is_below (suc n)) (is_below n) (is_dialled_for n) ls (each_below n ls) in
    let r = few_below n ls one in
    let o = one n in
    omega (arith, two, r, o)

-- an open socket that is not to be shut was accepted and is fine, or was dialled
one_stays : (cs : List Seat) (t : Table) (l : Line) → IsFitLine cs l → not (asks_shut t l) ≡ true → l.is_open ≡ true → (is_fine l || is_below 256 l) ≡ true
one_stays cs t l f shut e = go l.is_open l.dialled l.is_wrong e f.dialled (right l.is_open l.is_wrong (room_on t l == 0) e shut)
  where
    right : (o w r : Bool) → o ≡ true → not (o && (w || r)) ≡ true → w ≡ false
    right true true r a b = absurd (false≢true b)
    right true false r a b = refl
    right false w r a b = absurd (false≢true a)

    go : (o : Bool) (d : Option ℕ) (w : Bool) → o ≡ true → IsByte d → w ≡ false → ((o && is_none d && not w) || (o && below 256 d)) ≡ true
    go true None false a b c = refl
    go true None true a b c = absurd (false≢true (sym c))
    go true (Some q) false a b c = lt-ltb q 256 b
    go true (Some q) true a b c = lt-ltb q 256 b
    go false d w a b c = absurd (false≢true a)

each_stays : (cs : List Seat) (t : Table) (ls : List Line) → EachIs (IsFitLine cs) ls → list_all (λ l. not (asks_shut t l)) ls ≡ true → EachIs (λ l. l.is_open ≡ true → (is_fine l || is_below 256 l) ≡ true) ls
each_stays cs t [] f e = tt
each_stays cs t (l ∷ ls) f e = let p = and_parts _ _ e in (one_stays cs t l f.0 p.0, each_stays cs t ls f.1 p.1)

-- after a poll no more stay than are accepted at most, and one for each number of a player
pub few_stay : (t v : Table) (a b : ℕ) → t ≡ v → IsSound t a b → all_is_shut v ≡ true → length (filter (λ l. l.is_open) t.lines) ≤ 512
few_stay t v a b e s shut =
    let two = count_two (λ l. l.is_open) is_fine (is_below 256) t.lines (each_stays t.seats t t.lines s.lines (ap all_is_shut e ∙ shut)) in
    let fine = s.room.fine in
    let most = s.room.accepted in
    let few = few_below 256 t.lines s.room.dialled in
    let long = length-filter (λ l. l.is_open) t.lines in
    omega (arith, two, fine, most, few, long)

-- ---- the table without those that are closed

pub sound_stays : (t : Table) (a b c : ℕ) (ms : List Line) → IsSound t a b → ms ≡ filter (λ l. l.is_open) t.lines → c ≡ a → IsSound (record t { lines = ms }) c b
sound_stays t a b c ms s e cap = subst (λ (ls : List Line). IsSound (record t { lines = ls }) c b) (sym e) (record {
  sockets = differ_open t.lines s.sockets;
  players = s.players;
  lines = kept_open (IsFitLine t.seats) t.lines s.lines;
  seats = s.seats;
  room = record {
    accepted = s.room.accepted;
    fine = (let n = count_open is_fine t.lines in let old = s.room.fine in omega (arith, n, old));
    dialled = λ q. (let n = count_open (is_dialled_for q) t.lines in let old = s.room.dialled q in omega (arith, n, old));
    few = (let n = length-filter (λ l. l.is_open) t.lines in let m = count_by-le-length (λ l. l.is_open) t.lines in let old = s.room.few in omega (arith, n, m, old));
    room = (let r = s.room.room in omega (arith, r, cap));
  };
  waiting = s.waiting;
  frames = s.frames;
})

-- ---- item by item

pub record Listing (start t : Table) (all left : List Ready) : Type 0 where
  pub new : AreNewTo t.lines left
  pub room : length t.lines + length left ≤ MOST_LINES
  pub listed_so : fold listed t left ≡ fold listed start all

pub lists_open : (start t u : Table) (s : ℕ) (all left : List Ready) → Listing start t all (Opened s ∷ left) → u ≡ opened_on s t → Listing start u all left
lists_open start t u s all left w e =
    let room = w.room in
    let long = ap (λ (x : Table). length x.lines) e in
    let more = length_more t.lines (accepted_line s (not (nat_lt t.accepted MOST_ACCEPTED))) in
    record {
      new = subst (λ (x : Table). AreNewTo x.lines left) (sym e) (new_to_more s (not (nat_lt t.accepted MOST_ACCEPTED)) t.lines left w.new.1 w.new.2);
      room = omega (arith, room, long, more);
      listed_so = ap (λ (x : Table). fold listed x left) e ∙ w.listed_so;
    }

pub lists_seems : (start t u : Table) (s : ℕ) (all left : List Ready) → Listing start t all (Seems s ∷ left) → u ≡ at_line s woken t → Listing start u all left
lists_seems start t u s all left w e =
    let room = w.room in
    let a = alike_map (λ l. if l.socket == s then woken l else l) (woken_same s) t.lines in
    let long = ap (λ (x : Table). length x.lines) e in
    let same = length_alike t.lines (in_lines s woken t.lines) a in
    record {
      new = subst (λ (x : Table). AreNewTo x.lines left) (sym e) (new_to_alike t.lines (in_lines s woken t.lines) left a w.new);
      room = omega (arith, room, long, same);
      listed_so = ap (λ (x : Table). fold listed x left) e ∙ w.listed_so;
    }

lists_as : (start t u : Table) (r : Ready) (all left : List Ready) → Listing start t all (r ∷ left) → u ≡ listed t r → Listing start u all left
lists_as start t u (Opened s) all left w e = lists_open start t u s all left w e
lists_as start t u (Seems s) all left w e = lists_seems start t u s all left w e

pub lists_one : (start t u : Table) (all : List Ready) (i : ℕ) (x : Ready) → i < length all → Listing start t all (drop i all) → u ≡ listed t (get_or all i x) → Listing start u all (drop (i + 1) all)
lists_one start t u all i x lt w e =
    lists_as start t u (get_or all i x) all (drop (i + 1) all) (subst (Listing start t all) (drop_more all i x lt) w) e

pub list_new : (start t : Table) (all : List Ready) (i : ℕ) (x : Ready) → i < length all → Listing start t all (drop i all) → AreNewTo t.lines (get_or all i x ∷ [])
list_new start t all i x lt w = new_first t.lines (get_or all i x) (drop (i + 1) all) (subst (AreNewTo t.lines) (drop_more all i x lt) w.new)

pub list_few : (start t : Table) (all : List Ready) (i : ℕ) (x : Ready) → i < length all → Listing start t all (drop i all) → length t.lines < MOST_LINES
list_few start t all i x lt w =
    let room = w.room in
    let split = ap (λ (xs : List Ready). length xs) (drop_more all i x lt) in
    omega (arith, room, split)

pub lists_first : (v g r : Table) (all : List Ready) → g ≡ record v { lines = filter (λ l. l.is_open) v.lines } → r ≡ record g { seats = map S.rests g.seats } → length g.lines ≤ 512 → length all ≤ 64 →
    AreNewTo v.lines all → Listing (rested v) r all all
lists_first v g r all e f few most new =
    let same : r ≡ rested v = f ∙ ap (λ (t : Table). record t { seats = map S.rests t.seats }) e in
    let long = ap (λ (t : Table). length t.lines) f in
    record {
      new = subst (λ (t : Table). AreNewTo t.lines all) (sym same) (new_to_open v.lines all new);
      room = omega (arith, few, most, long);
      listed_so = ap (λ (t : Table). fold listed t all) same;
    }
