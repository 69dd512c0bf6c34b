-- Heard: dials, reads and shuts.
use Rattle.std.proofs.Common.{◌≡◌, ℕ, ◌+◌, ◌<◌, ◌≤◌, Bool, true, false, refl, sym, ap, subst, ◌∙◌, List, [], ◌∷◌, ◌++◌, arith, length, min, take}
use Rattle.std.specs.Prelude.{◌==◌, ◌&&◌, ◌||◌, not, if◌then◌else◌}
use Rattle.std.proofs.lemmas.Bool.Decides.{nat_tests}
use Rattle.std.proofs.Math.Seq.{take-append_seam}
use Rattle.std.proofs.lemmas.Slice.Eq.{bytes_eq-Decides}
use Rattle.std.proofs.lemmas.Bool.{and_from, and_parts, eq-eqb, false≢true, le-leb, lt-ltb}
use Rattle.std.proofs.lemmas.List.{length-take-le}
use Rattle.socket_station.specs.declared.answers.Addr.{Addr}
use Rattle.socket_station.specs.declared.answers.SocketRead.{SocketRead}
use Rattle.socket_station.specs.declared.answers.SocketRead.TheVariants as R
use Rattle.socket_station.specs.declared.answers.Standing.TheVariants.{Fresh, Open}
use Rattle.socket_station.specs.Items.{Item, Dialled, Shut, Failed, DialCall, read_item}
use Rattle.socket_station.specs.Standings.{OpensNew, standing_in}
use Rattle.socket_station.specs.Withins.{TakesWithin}
use Rattle.socket_station.proofs.Histories.{standing-more}
use Rattle.peer_rules.specs.Addresses.{addr_eq}
use Rattle.deposit_rules.specs.declared.phases.DepositPhase.TheVariants.{Giving}
use Rattle.deposit_rules.specs.declared.line.DepositLine.{DepositLine}
use Rattle.deposit_rules.specs.Lines.{asks_shut, closed, new_line, quieted, room_of, took}
use Rattle.deposit_rules.specs.Views.{View, hello}
use Rattle.deposit_rules.specs.After as A
use Rattle.deposit_rules.specs.Rules as L
use Rattle.deposit_rules.proofs.Given.{fed_taken, took_keeps}
use Rattle.live_deposit.specs.declared.deposit.TheConstants.{MOST_MOVED}
use Rattle.live_deposit.specs.Told.{IsReady, Stands}
use Rattle.live_deposit.specs.Going.{poll_count}
use Rattle.live_deposit.specs.Reading.{Clears, Dials, IsRead, Moves, Reads, ReadsOut, left_of, may_dial, read_by}
use Rattle.live_deposit.proofs.Going.{goes_one, goes_still, goes_then}

pub on_here : (v : View) (f : DepositLine → DepositLine) → A.on_line v.line.socket f v ≡ A.with_line (f v.line) v
on_here v f = ap (λ (b : Bool). if b then A.with_line (f v.line) v else v) (eq-eqb v.line.socket v.line.socket refl)

pub moves_still : (items : List Item) (v : View) → IsReady items v → Moves items items v v
moves_still items v ready = record { goes = goes_still items v ready.stands; giving = ready.giving; dialled = refl }

pub moves_then : (a b c : List Item) (u v w : View) → Moves a b u v → Moves b c v w → Moves a c u w
moves_then a b c u v w g h = record { goes = goes_then a b c u v w g.goes h.goes; giving = h.giving; dialled = h.dialled ∙ g.dialled }

pub ready_after : (a b : List Item) (v w : View) → Moves a b v w → IsReady b w
ready_after a b v w m = record { giving = m.giving; stands = m.goes.grew.stands }

-- an item changes the line
pub moves_one : (before after : List Item) (item : Item) (v : View) (l : DepositLine) → v.phase ≡ Giving → OpensNew before item → ((log : List ℕ) → L.is_allowed log v item ≡ true) → poll_count item ≡ 0 → after ≡ before ++ item ∷ [] →
    A.after v item ≡ A.with_line l v → Stands after (A.with_line l v) → Moves before after v (A.with_line l v)
moves_one before after item v l giving new may none on is stands = record { goes = goes_one 0 before after item v (A.with_line l v) new may none on (sym is) refl stands; giving = giving; dialled = refl }

-- ---- dialling

addr_same : (a : Addr) → addr_eq a a ≡ true
addr_same a = and_from _ _ ((bytes_eq-Decides a.ip a.ip).1 refl) (eq-eqb a.port a.port refl)

dial_may : (v : View) → v.phase ≡ Giving → may_dial v ≡ true → L.may_dial v v.setting.player v.setting.addr ≡ true
dial_may v giving may =
    let both = and_parts _ _ may in
    and_from _ _ (and_from _ _ (and_from _ _ (and_from _ _ (ap L.is_giving giving) both.0) both.1) (eq-eqb v.setting.player v.setting.player refl)) (addr_same v.setting.addr)

pub dialled_one : (before after : List Item) (v : View) (s : ℕ) → IsReady before v → may_dial v ≡ true → standing_in before s ≡ Fresh → after ≡ before ++ Dialled s v.setting.player v.setting.addr ∷ [] →
    Dials before after v (record v { line = new_line s (hello v.setting); is_dialled = true })
dialled_one before after v s ready may fresh on = record {
  goes = goes_one 0 before after (Dialled s v.setting.player v.setting.addr) v _ fresh (λ log. dial_may v ready.giving may) refl on refl refl (record {
    opened = λ e. ap (λ (xs : List Item). standing_in xs s) on ∙ standing-more before (Dialled s v.setting.player v.setting.addr) s ∙ ap (λ (b : Bool). if b then Open else standing_in before s) (eq-eqb s s refl);
    place = omega arith;
  });
  giving = ready.giving;
  dialled = refl;
}

not_true : (b : Bool) → not b ≡ true → b ≡ true → ⊥
not_true true e f = false≢true e
not_true false e f = false≢true f

pub undialled_one : (before after : List Item) (v : View) → IsReady before v → may_dial v ≡ true → after ≡ before ++ Failed (DialCall v.setting.player v.setting.addr) ∷ [] → Dials before after v (record v { is_dialled = true })
undialled_one before after v ready may on = record {
  goes = goes_one 0 before after (Failed (DialCall v.setting.player v.setting.addr)) v _ tt (λ log. dial_may v ready.giving may) refl on refl refl (record {
    opened = λ e. absurd (not_true v.line.is_open (and_parts _ _ may).0 e);
    place = ready.stands.place;
  });
  giving = ready.giving;
  dialled = refl;
}

-- ---- one read

read_after : (v : View) (r : SocketRead) (buf : List ℕ) → A.after v (read_item v.line.socket r buf) ≡ A.with_line (read_by r buf v.line) v
read_after v (R.Took n) buf = on_here v (took (take n buf))
read_after v R.NotYet buf = on_here v quieted
read_after v R.Ended buf = on_here v closed
read_after v R.Failed buf = on_here v closed

read_opens : (items : List Item) (s : ℕ) (r : SocketRead) (buf : List ℕ) → OpensNew items (read_item s r buf)
read_opens items s (R.Took n) buf = tt
read_opens items s R.NotYet buf = tt
read_opens items s R.Ended buf = tt
read_opens items s R.Failed buf = tt

read_polls : (s : ℕ) (r : SocketRead) (buf : List ℕ) → poll_count (read_item s r buf) ≡ 0
read_polls s (R.Took n) buf = refl
read_polls s R.NotYet buf = refl
read_polls s R.Ended buf = refl
read_polls s R.Failed buf = refl

read_may : (log : List ℕ) (v : View) (r : SocketRead) (buf : List ℕ) → v.phase ≡ Giving → L.wants_read v.line ≡ true → TakesWithin r buf → length buf ≤ room_of v.line → L.is_allowed log v (read_item v.line.socket r buf) ≡ true
read_may log v r buf giving wants within few = go r within
  where
    may : L.may_read v v.line.socket ≡ true
    may = and_from _ _ (and_from _ _ (and_from _ _ (ap L.is_giving giving) (and_parts _ _ (and_parts _ _ wants).0).0) (eq-eqb v.line.socket v.line.socket refl)) wants

    go : (x : SocketRead) → TakesWithin x buf → L.is_allowed log v (read_item v.line.socket x buf) ≡ true
    go (R.Took n) t =
        let long : length (take n buf) ≡ n = length-take-le n buf t.1 in
        let a = t.0 in
        let b = t.1 in
        and_from _ _ (and_from _ _ may (lt-ltb 0 (length (take n buf)) (omega (arith, long, a)))) (le-leb (length (take n buf)) (room_of v.line) (omega (arith, long, b, few)))
    go R.NotYet t = may
    go R.Ended t = may
    go R.Failed t = may

-- the socket stands as it did where it is still open
read_open : (before after : List Item) (l : DepositLine) (r : SocketRead) (buf : List ℕ) → (l.is_open ≡ true → standing_in before l.socket ≡ Open) → after ≡ before ++ read_item l.socket r buf ∷ [] → (read_by r buf l).is_open ≡ true → standing_in after (read_by r buf l).socket ≡ Open
read_open before after l (R.Took n) buf stands on o =
    let k = took_keeps (take n buf) l in
    ap (standing_in after) k.sock ∙ ap (λ (xs : List Item). standing_in xs l.socket) on ∙ standing-more before (read_item l.socket (R.Took n) buf) l.socket ∙ stands (sym k.opened ∙ o)
read_open before after l R.NotYet buf stands on o = ap (λ (xs : List Item). standing_in xs l.socket) on ∙ standing-more before (read_item l.socket R.NotYet buf) l.socket ∙ stands o
read_open before after l R.Ended buf stands on o = absurd (false≢true o)
read_open before after l R.Failed buf stands on o = absurd (false≢true o)

left_most : (l : DepositLine) → left_of l ≤ room_of l + 1
left_most l = go (L.wants_read l)
  where
    go : (b : Bool) → (if b then room_of l + 1 else 0) ≤ room_of l + 1
    go true = omega arith
    go false = omega arith

left_none : (l : DepositLine) → L.wants_read l ≡ false → left_of l ≡ 0
left_none l e = ap (λ (b : Bool). if b then room_of l + 1 else 0) e

left_wants : (l : DepositLine) → L.wants_read l ≡ true → left_of l ≡ room_of l + 1
left_wants l e = ap (λ (b : Bool). if b then room_of l + 1 else 0) e

and_false : (a : Bool) → (a && false) ≡ false
and_false true = refl
and_false false = refl

read_less : (l : DepositLine) (r : SocketRead) (buf : List ℕ) → L.wants_read l ≡ true → TakesWithin r buf → length buf ≤ room_of l → left_of (read_by r buf l) < left_of l
read_less l r buf wants within few = go r within
  where
    was : left_of l ≡ room_of l + 1
    was = left_wants l wants

    go : (x : SocketRead) → TakesWithin x buf → left_of (read_by x buf l) < left_of l
    go (R.Took n) t =
        let m : DepositLine = took (take n buf) l in
        let most = left_most m in
        let long : length (take n buf) ≡ n = length-take-le n buf t.1 in
        let taken : m.taken ≡ l.taken + length (take n buf) = fed_taken (take n buf) (record l { taken = l.taken + length (take n buf) }) in
        let a = t.0 in
        let b = t.1 in
        omega (arith, most, was, long, taken, a, b, few)
    go R.NotYet t = let none = left_none (quieted l) (and_false (l.is_open && not (asks_shut l))) in omega (arith, none, was)
    go R.Ended t = omega (arith, was)
    go R.Failed t = omega (arith, was)

pub read_one : (before after : List Item) (v : View) (r : SocketRead) (buf : List ℕ) → IsReady before v → L.wants_read v.line ≡ true → TakesWithin r buf → length buf ≤ room_of v.line → after ≡ before ++ read_item v.line.socket r buf ∷ [] →
    (read_by r buf v.line).reader.place ≤ (read_by r buf v.line).taken → Reads before after v (A.with_line (read_by r buf v.line) v)
read_one before after v r buf ready wants within few on place = record {
  moves = moves_one before after (read_item v.line.socket r buf) v (read_by r buf v.line) ready.giving (read_opens before v.line.socket r buf) (λ log. read_may log v r buf ready.giving wants within few) (read_polls v.line.socket r buf) on
      (read_after v r buf) (record { opened = read_open before after v.line r buf ready.stands.opened on; place = place });
  less = read_less v.line r buf wants within few;
}

-- the front of what a read filled
pub whole : (most : ℕ) (buf post old : List ℕ) → length buf ≡ length (take most old) → most ≤ length old → take most (buf ++ post) ≡ buf
whole most buf post old long few = ap (λ (n : ℕ). take n (buf ++ post)) (sym (long ∙ length-take-le most old few)) ∙ take-append_seam buf post

-- there is room where the line is to be read
asks_not : (l : DepositLine) → asks_shut l ≡ false → 0 < room_of l
asks_not l e = go l.is_wrong (room_of l) e
  where
    go : (b : Bool) (n : ℕ) → (b || (n == 0)) ≡ false → 0 < n
    go true n h = absurd (false≢true (sym h))
    go false n h = grind (arith, nat_tests)

not_false : (b : Bool) → not b ≡ true → b ≡ false
not_false true e = absurd (false≢true e)
not_false false e = refl

pub reads_room : (l : DepositLine) → L.wants_read l ≡ true → 0 < room_of l
reads_room l wants = asks_not l (not_false (asks_shut l) (and_parts _ _ (and_parts _ _ wants).0).1)

pub reads_open : (items : List Item) (v : View) → Stands items v → L.wants_read v.line ≡ true → standing_in items v.line.socket ≡ Open
reads_open items v stands wants = stands.opened (and_parts _ _ (and_parts _ _ wants).0).0

-- ---- until nothing is to be read

pub record ReadingOut (before now : List Item) (v w : View) : Type 0 where
  pub moves : Moves before now v w
  pub ready : IsReady now w

pub out_first : (items : List Item) (v : View) → IsReady items v → ReadingOut items items v v
out_first items v ready = record { moves = moves_still items v ready; ready = ready }

pub out_on : (a b c : List Item) (u v w : View) → ReadingOut a b u v → Reads b c v w → ReadingOut a c u w
out_on a b c u v w g r = record { moves = moves_then a b c u v w g.moves r.moves; ready = ready_after b c v w r.moves }

-- ---- shutting

not_both : (a b : Bool) → a ≡ true → b ≡ false → (a && not b) ≡ true
not_both a b e f = and_from a (not b) e (ap not f)

read_so : (l : DepositLine) → L.wants_read l ≡ false → (l.is_open ≡ true → asks_shut l ≡ false) → IsRead l
read_so l out none o = (none o, true_quiet l.is_quiet refl)
  where
    true_quiet : (q : Bool) → l.is_quiet ≡ q → l.is_quiet ≡ true
    true_quiet true e = e
    true_quiet false e = absurd (false≢true (sym out ∙ not_both (l.is_open && not (asks_shut l)) l.is_quiet (not_both l.is_open (asks_shut l) o (none o)) e))

pub shut_not : (items : List Item) (v : View) → IsReady items v → L.wants_read v.line ≡ false → (v.line.is_open ≡ true → asks_shut v.line ≡ false) → Clears items items v v
shut_not items v ready out none = record { moves = moves_still items v ready; read = read_so v.line out none }

shut_may : (v : View) → v.phase ≡ Giving → v.line.is_open ≡ true → asks_shut v.line ≡ true → L.may_shut v v.line.socket ≡ true
shut_may v giving o asks = and_from _ _ (and_from _ _ (and_from _ _ (ap L.is_giving giving) o) (eq-eqb v.line.socket v.line.socket refl)) asks

pub shut_one : (before after : List Item) (v : View) → IsReady before v → v.line.is_open ≡ true → asks_shut v.line ≡ true → after ≡ before ++ Shut v.line.socket ∷ [] → Clears before after v (A.with_line (closed v.line) v)
shut_one before after v ready o asks on = record {
  moves = moves_one before after (Shut v.line.socket) v (closed v.line) ready.giving tt (λ log. shut_may v ready.giving o asks) refl on (on_here v closed) (record { opened = λ e. absurd (false≢true e); place = ready.stands.place });
  read = λ e. absurd (false≢true e);
}

pub clears_then : (a b c : List Item) (u v w : View) → ReadsOut a b u v → Clears b c v w → Clears a c u w
clears_then a b c u v w r s = record { moves = moves_then a b c u v w r.moves s.moves; read = s.read }

-- ---- as the depositor's parts show it

pub ready_in : (items : List Item) (i w : View) → i ≡ w → IsReady items w → IsReady items i
ready_in items i w e ready = subst (λ (x : View). IsReady items x) (sym e) ready

pub dialled_in : (before after : List Item) (i w : View) (s : ℕ) (l : DepositLine) → i ≡ w → IsReady before w → may_dial w ≡ true → standing_in before s ≡ Fresh → after ≡ before ++ Dialled s i.setting.player i.setting.addr ∷ [] →
    l ≡ new_line s (hello i.setting) → Dials before after w (record i { line = l; is_dialled = true })
dialled_in before after i w s l e ready may fresh on made =
    let is = subst (λ (k : DepositLine). Dials before after i (record i { line = k; is_dialled = true })) (sym made) (dialled_one before after i s (ready_in before i w e ready) (ap may_dial e ∙ may) fresh on) in
    subst (λ (x : View). Dials before after x (record i { line = l; is_dialled = true })) e is

pub undialled_in : (before after : List Item) (i w : View) → i ≡ w → IsReady before w → may_dial w ≡ true → after ≡ before ++ Failed (DialCall i.setting.player i.setting.addr) ∷ [] → Dials before after w (record i { is_dialled = true })
undialled_in before after i w e ready may on =
    subst (λ (x : View). Dials before after x (record i { is_dialled = true })) e (undialled_one before after i (ready_in before i w e ready) (ap may_dial e ∙ may) on)

pub read_in : (before after : List Item) (i w : View) (r : SocketRead) (most room : ℕ) (buf post old : List ℕ) (l : DepositLine) → i ≡ w → IsReady before w → L.wants_read w.line ≡ true → most ≡ min MOST_MOVED room → room ≡ room_of i.line → length buf ≡ length (take most old) →
    length old ≡ MOST_MOVED → after ≡ before ++ read_item i.line.socket r buf ∷ [] → TakesWithin r buf → l ≡ read_by r (take most (buf ++ post)) i.line → l.reader.place ≤ l.taken → Reads before after w (A.with_line l i)
read_in before after i w r most room buf post old l e ready wants few is long all on within made place =
    let size = length-take-le most old (omega (arith, few, all)) in
    let same : l ≡ read_by r buf i.line = made ∙ ap (λ (b : List ℕ). read_by r b i.line) (whole most buf post old long (omega (arith, few, all))) in
    let one = read_one before after i r buf (ready_in before i w e ready) (ap (λ (x : View). L.wants_read x.line) e ∙ wants) within (omega (arith, size, long, few, is)) on (subst (λ (k : DepositLine). k.reader.place ≤ k.taken) same place) in
    subst (λ (x : View). Reads before after x (A.with_line l i)) e (subst (λ (k : DepositLine). Reads before after i (A.with_line k i)) (sym same) one)

pub shut_in : (before after : List Item) (i w : View) → i ≡ w → IsReady before w → i.line.is_open ≡ true → asks_shut i.line ≡ true → after ≡ before ++ Shut i.line.socket ∷ [] → Clears before after w (A.with_line (closed i.line) i)
shut_in before after i w e ready o asks on = subst (λ (x : View). Clears before after x (A.with_line (closed i.line) i)) e (shut_one before after i (ready_in before i w e ready) o asks on)
