-- Opened: sockets that open, and what a poll does to a list of them.
use Rattle.std.proofs.Common.{◌≡◌, ℕ, ◌+◌, ◌<◌, ◌≤◌, Bool, true, false, refl, sym, ap, subst, ◌∙◌, List, [], ◌∷◌, ◌++◌, arith, length, get_or}
use Rattle.std.specs.Prelude.{◌==◌, ◌&&◌, cond, drop, filter, nat_lt, not, if◌then◌else◌}
use Rattle.std.specs.List.{count_by, fold, list_all}
use Rattle.std.proofs.lemmas.Bool.{and_parts, false≢true}
use Rattle.std.proofs.lemmas.List.{drop_more}
use Rattle.std.proofs.lemmas.List.Sums.{length-filter, count_by-le-length}
use Rattle.plain_lemmas.proofs.Each.{each_push}
use Rattle.plain_lemmas.proofs.Tests.{of_chosen}
use Rattle.socket_station.specs.declared.answers.Ready.{Ready}
use Rattle.socket_station.specs.declared.answers.Ready.TheVariants.{Opened, Socket as Seems}
use Rattle.socket_station.specs.declared.ready_list.TheConstants.{MOST_READY}
use Rattle.socket_lines.specs.declared.limits.TheConstants.{MOST_ACCEPTED}
use Rattle.socket_lines.specs.declared.line.Line.{Line}
use Rattle.socket_lines.specs.Lines.{accepted_line, woken}
use Rattle.loop_rules.specs.Tables.{in_lines}
use Rattle.loop_rules.specs.Told.{IsNotIn}
use Rattle.loop_rules.proofs.Told.{kept_open, differ_open, differ_last}
use Rattle.loop_rules.proofs.Alike.{alike_map}
use Rattle.socket_list.specs.declared.sockets.TheConstants.{MOST_SOCKETS}
use Rattle.socket_list.specs.Opening.{AreNewTo}
use Rattle.socket_list.specs.Sockets.{Sockets, at_line, listed, opened_on, rested}
use Rattle.socket_list.specs.Sound.{IsFit, IsSound, is_fine, none_wrong}
use Rattle.socket_list.proofs.Pairs.{count_cons}
use Rattle.socket_list.proofs.Counting.{count_last, count_open, length_alike, length_more}
use Rattle.socket_list.proofs.OneLine.{woken_same}
use Rattle.socket_list.proofs.Listed.{new_first, new_to_alike, new_to_more, new_to_open}

-- ---- a socket that was listed

pub fit_woken : (s : ℕ) (l : Line) → IsFit l → IsFit (if l.socket == s then woken l else l)
fit_woken s l f = of_chosen IsFit (l.socket == s) (woken l) l (record { taken = f.taken; read = f.read }) f

-- ---- a socket that opens

pub sound_open : (t : Sockets) (room cap s : ℕ) (wrong : Bool) (n : ℕ) (ms : List Line) → IsSound t room → room ≤ cap → IsNotIn s t.lines → length t.lines < MOST_SOCKETS → ms ≡ t.lines ++ accepted_line s wrong ∷ [] →
    t.accepted ≤ n → n ≤ MOST_ACCEPTED → (wrong ≡ false → t.accepted + 1 ≤ n) → IsSound (record { lines = ms; accepted = n }) cap
sound_open t room cap s wrong n ms w more new few e low most one = subst (λ (ls : List Line). IsSound (record { lines = ls; accepted = n }) cap) (sym e) (record {
  differ = differ_last t.lines (accepted_line s wrong) new w.differ;
  fit = each_push IsFit t.lines (accepted_line s wrong) w.fit (record { taken = omega arith; read = omega arith });
  accepted = most;
  fine = fine wrong one;
  few = (let m = length_more t.lines (accepted_line s wrong) in omega (arith, m, few));
  room = (let r = w.room in omega (arith, r, more));
})
  where
    fine : (b : Bool) → (b ≡ false → t.accepted + 1 ≤ n) → count_by is_fine (t.lines ++ accepted_line s b ∷ []) ≤ n
    fine true k =
        let m = count_last is_fine t.lines (accepted_line s true) in
        let old = w.fine in
        omega (arith, m, old, low)
    fine false k =
        let m = count_last is_fine t.lines (accepted_line s false) in
        let old = w.fine in
        let more_one = k refl in
        omega (arith, m, old, more_one)

-- ---- closed ones go

-- those that stay are fine, where none is left to be shut
all_fine : (ls : List Line) → list_all (λ l. not (l.is_open && l.is_wrong)) ls ≡ true → count_by (λ l. l.is_open) ls ≤ count_by is_fine ls
all_fine [] e = omega arith
all_fine (l ∷ ls) e =
    let p = and_parts _ _ e in
    let here = one l.is_open l.is_wrong p.0 in
    let more = all_fine ls p.1 in
    let old = count_cons (λ (m : Line). m.is_open) l ls in
    let new = count_cons is_fine l ls in
    omega (arith, here, more, old, new)
  where
    one : (o w : Bool) → not (o && w) ≡ true → cond o 1 0 ≤ cond (o && not w) 1 0
    one true true k = absurd (false≢true k)
    one true false k = omega arith
    one false w k = omega arith

pub few_stay : (t v : Sockets) (room : ℕ) → t ≡ v → IsSound t room → none_wrong v ≡ true → length (filter (λ l. l.is_open) t.lines) ≤ MOST_ACCEPTED
few_stay t v room e s none =
    let fine = all_fine t.lines (ap none_wrong e ∙ none) in
    let old = s.fine in
    let most = s.accepted in
    let long = length-filter (λ l. l.is_open) t.lines in
    omega (arith, fine, old, most, long)

pub sound_stays : (t : Sockets) (room cap : ℕ) (ms : List Line) → IsSound t room → ms ≡ filter (λ l. l.is_open) t.lines → cap ≡ room → IsSound (record t { lines = ms }) cap
sound_stays t room cap ms s e same_room = subst (λ (ls : List Line). IsSound (record t { lines = ls }) cap) (sym e) (record {
  differ = differ_open t.lines s.differ;
  fit = kept_open IsFit t.lines s.fit;
  accepted = s.accepted;
  fine = (let n = count_open is_fine t.lines in let old = s.fine in omega (arith, n, old));
  few = (let n = length-filter (λ l. l.is_open) t.lines in let m = count_by-le-length (λ l. l.is_open) t.lines in let old = s.few in omega (arith, n, m, old));
  room = (let r = s.room in omega (arith, r, same_room));
})

-- ---- item by item

pub record Listing (start t : Sockets) (all left : List Ready) : Type 0 where
  pub new : AreNewTo t.lines left
  pub room : length t.lines + length left ≤ MOST_SOCKETS
  pub listed_so : fold listed t left ≡ fold listed start all

lists_open : (start t u : Sockets) (s : ℕ) (all left : List Ready) → Listing start t all (Opened s ∷ left) → u ≡ opened_on s t → Listing start u all left
lists_open start t u s all left w e =
    let wrong = not (nat_lt t.accepted MOST_ACCEPTED) in
    let room = w.room in
    let long = ap (λ (x : Sockets). length x.lines) e in
    let more = length_more t.lines (accepted_line s wrong) in
    record {
      new = subst (λ (x : Sockets). AreNewTo x.lines left) (sym e) (new_to_more s wrong t.lines left w.new.1 w.new.2);
      room = omega (arith, room, long, more);
      listed_so = ap (λ (x : Sockets). fold listed x left) e ∙ w.listed_so;
    }

lists_seems : (start t u : Sockets) (s : ℕ) (all left : List Ready) → Listing start t all (Seems s ∷ left) → u ≡ at_line s woken t → Listing start u all left
lists_seems start t u s all left w e =
    let room = w.room in
    let a = alike_map (λ l. if l.socket == s then woken l else l) (woken_same s) t.lines in
    let long = ap (λ (x : Sockets). length x.lines) e in
    let same_long = length_alike t.lines (in_lines s woken t.lines) a in
    record {
      new = subst (λ (x : Sockets). AreNewTo x.lines left) (sym e) (new_to_alike t.lines (in_lines s woken t.lines) left a w.new);
      room = omega (arith, room, long, same_long);
      listed_so = ap (λ (x : Sockets). fold listed x left) e ∙ w.listed_so;
    }

lists_as : (start t u : Sockets) (r : Ready) (all left : List Ready) → Listing start t all (r ∷ left) → u ≡ listed t r → Listing start u all left
lists_as start t u (Opened s) all left w e = lists_open start t u s all left w e
lists_as start t u (Seems s) all left w e = lists_seems start t u s all left w e

pub lists_one : (start t u : Sockets) (all : List Ready) (i : ℕ) (x : Ready) → i < length all → Listing start t all (drop i all) → u ≡ listed t (get_or all i x) → Listing start u all (drop (i + 1) all)
lists_one start t u all i x lt w e =
    lists_as start t u (get_or all i x) all (drop (i + 1) all) (subst (Listing start t all) (drop_more all i x lt) w) e

pub list_new : (start t : Sockets) (all : List Ready) (i : ℕ) (x : Ready) → i < length all → Listing start t all (drop i all) → AreNewTo t.lines (get_or all i x ∷ [])
list_new start t all i x lt w = new_first t.lines (get_or all i x) (drop (i + 1) all) (subst (AreNewTo t.lines) (drop_more all i x lt) w.new)

pub list_few : (start t : Sockets) (all : List Ready) (i : ℕ) (x : Ready) → i < length all → Listing start t all (drop i all) → length t.lines < MOST_SOCKETS
list_few start t all i x lt w =
    let room = w.room in
    let split = ap (λ (xs : List Ready). length xs) (drop_more all i x lt) in
    omega (arith, room, split)

pub lists_first : (v r : Sockets) (all : List Ready) → r ≡ rested v → length r.lines ≤ MOST_ACCEPTED → length all ≤ MOST_READY → AreNewTo v.lines all → Listing (rested v) r all all
lists_first v r all e few most new = record {
  new = subst (λ (t : Sockets). AreNewTo t.lines all) (sym e) (new_to_open v.lines all new);
  room = omega (arith, few, most);
  listed_so = ap (λ (t : Sockets). fold listed t all) e;
}
