-- Dialled: a player is dialled.
use Rattle.std.proofs.Common.{◌≡◌, ℕ, zero, suc, ◌+◌, ◌<◌, ◌≤◌, Bool, true, false, refl, sym, ap, subst, ◌∙◌, List, [], ◌∷◌, ◌++◌, arith, length}
use Rattle.std.specs.Prelude.{Some, None, not, ◌&&◌, ◌||◌, ◌==◌, nat_lt, cond, slice_get, if◌then◌else◌}
use Rattle.std.specs.List.{count_by}
use Rattle.std.proofs.lemmas.Bool.{eq-eqb, eqb-true, eqb-false, and_from}
use Rattle.std.proofs.lemmas.Option.{slice_get_within}
use Rattle.definitions.specs.Findings.{is_clean}
use Rattle.definitions.specs.declared.logs.Entry.{Entry}
use Rattle.definitions.specs.Held.{next_place}
use Rattle.socket_station.specs.declared.answers.Addr.{Addr}
use Rattle.socket_station.specs.declared.answers.Dial.{Dial}
use Rattle.socket_station.specs.declared.answers.Dial.TheVariants as D
use Rattle.socket_station.specs.declared.answers.Standing.TheVariants.{Fresh}
use Rattle.socket_station.specs.Standings.{OpensNew, standing_in}
use Rattle.socket_station.specs.Items.{Item, dial_item}
use Rattle.socket_lines.specs.declared.seat.Seat.{Seat}
use Rattle.socket_lines.specs.Seats.{dials, is_spent}
use Rattle.peer_rules.specs.Addresses.{told_addr}
use Rattle.loop_rules.specs.Tables.{Table, at_seat, in_seats, seat_of, is_served}
use Rattle.loop_rules.specs.Licence.{is_reached}
use Rattle.loop_rules.specs.Rules.{is_allowed, may_dial_at, wants_dial}
use Rattle.loop_rules.specs.After as A
use Rattle.loop_rules.specs.Told.{DiffersBy, IsNotIn, IsTold}
use Rattle.loop_rules.proofs.Told.{not_in_fresh}
use Rattle.socket_list.proofs.Keys.{found_at}
use Rattle.socket_list.proofs.Pairs.{count_cons}
use Rattle.ready_loop.specs.States.{LoopState, base_of, view_of}
use Rattle.ready_loop.specs.Steps.{with_table}
use Rattle.ready_loop.specs.Going.{IsIdle, poll_count, undialled}
use Rattle.ready_loop.specs.Serving.{IsServing, IsNextDial, Dials}
use Rattle.ready_loop.proofs.Idle.{idle_view, all_kept, serves_on}
use Rattle.ready_loop.proofs.Places.{all_places}
use Rattle.ready_loop.proofs.Served.{call_goes}
use Rattle.ready_loop.proofs.Addresses.{same_addr}

-- ---- which one is next

reached : (me : ℕ) (t : Table) (c : Seat) → wants_dial me t c ≡ false → is_reached me t c ≡ true
reached me t c e = go (nat_lt me c.link.player) (is_served t c.link.player) c.is_dialled (is_spent c) e
  where
    go : (a s d p : Bool) → (a && not s && not d && not p) ≡ false → (not a || p || s || d) ≡ true
    go false s d p e = refl
    go true true d true e = refl
    go true true d false e = refl
    go true false true true e = refl
    go true false true false e = refl
    go true false false true e = refl
    go true false false false e = absurd (cc)

pub none_next : (l : LoopState) (n : ℕ) → length l.table.seats ≤ n → ((k : ℕ) (c : Seat) → k < n → slice_get l.table.seats k ≡ Some c → wants_dial l.peer.me l.table c ≡ false) → IsNextDial l None
none_next l n le none = all_places (is_reached l.peer.me l.table) l.table.seats (λ k c g. reached l.peer.me l.table c (none k c (let lt = slice_get_within l.table.seats k c g in omega (arith, lt, le)) g))

-- ---- the call

dials_parts : (me : ℕ) (t : Table) (c : Seat) → wants_dial me t c ≡ true → (is_served t c.link.player ≡ false) × (c.is_dialled ≡ false)
dials_parts me t c e = go (nat_lt me c.link.player) (is_served t c.link.player) c.is_dialled (is_spent c) e
  where
    go : (a s d p : Bool) → (a && not s && not d && not p) ≡ true → (s ≡ false) × (d ≡ false)
    go false s d p e = absurd (cc)
    go true true d p e = absurd (cc)
    go true false true p e = absurd (cc)
    go true false false p e = (refl, refl)

pub next_free : (l : LoopState) (k : ℕ) (c : Seat) → IsNextDial l (Some k) → slice_get l.table.seats k ≡ Some c → (is_served l.table c.link.player ≡ false) × (c.is_dialled ≡ false)
next_free l k c n g =
    let same : n.0 ≡ c = (let e : Some n.0 ≡ Some c = sym n.1 ∙ g in cc) in
    dials_parts l.peer.me l.table c (subst (λ (d : Seat). wants_dial l.peer.me l.table d ≡ true) same n.2)

pub new_socket : (items : List Item) (l : LoopState) (s : ℕ) → IsTold items (view_of l) → IsIdle l → standing_in items s ≡ Fresh → IsNotIn s l.table.lines
new_socket items l s told w f = not_in_fresh items s l.table.lines f (subst (IsTold items) (idle_view l w) told).stand

-- the table after the call
abbrev pub dialled_table : LoopState → (c : Seat) → Dial → Table
dialled_table l c (D.Socket s) = A.dialled_on s c.link.player (next_place l.peer.game l.peer.me l.peer.entries c.link.player) l.table
dialled_table l c D.Failed = at_seat c.link.player dials l.table

dial_may : (l : LoopState) (k : ℕ) (c : Seat) (dial : Dial) → IsIdle l → is_clean l.peer.game l.peer.entries ≡ true → DiffersBy (λ x. x.link.player) l.table.seats → slice_get l.table.seats k ≡ Some c → wants_dial l.peer.me l.table c ≡ true →
    is_allowed (base_of l) (dial_item dial c.link.player (told_addr c.link.addr)) ≡ true
dial_may l k c dial w clean d g wants = go dial
  where
    may : may_dial_at (base_of l) (told_addr c.link.addr) (seat_of l.table c.link.player) ≡ true
    may = ap (may_dial_at (base_of l) (told_addr c.link.addr)) (found_at (λ x. x.link.player) c.link.player l.table.seats k c d g refl)
        ∙ and_from _ _ (and_from _ _ (serves_on l w clean) wants) (same_addr (told_addr c.link.addr))

    go : (r : Dial) → is_allowed (base_of l) (dial_item r c.link.player (told_addr c.link.addr)) ≡ true
    go (D.Socket s) = may
    go D.Failed = may

dial_shows : (l : LoopState) (c : Seat) (dial : Dial) → IsIdle l → A.after (base_of l) (dial_item dial c.link.player (told_addr c.link.addr)) ≡ record (base_of l) { table = dialled_table l c dial }
dial_shows l c (D.Socket s) w = ap (λ (h : List Entry). A.with_table (A.dialled_on s c.link.player (next_place l.peer.game l.peer.me h c.link.player) l.table) (base_of l)) (all_kept l w.kept)
dial_shows l c D.Failed w = refl

-- one more is dialled
one_less : (cs : List Seat) (k q : ℕ) (c : Seat) → slice_get cs k ≡ Some c → c.link.player ≡ q → c.is_dialled ≡ false → count_by (λ x. not x.is_dialled) (in_seats q dials cs) < count_by (λ x. not x.is_dialled) cs
one_less [] k q c g e f = absurd (let n : None ≡ Some c = g in cc)
one_less (x ∷ cs) k q c g e f =
    let ih = λ (j : ℕ) (h : slice_get cs j ≡ Some c). one_less cs j q c h e f in
    let a = count_cons (λ y. not y.is_dialled) x cs in
    let b = count_cons (λ y. not y.is_dialled) (if x.link.player == q then dials x else x) (in_seats q dials cs) in
    go k g a b ih
  where
    first : Seat
    first = if x.link.player == q then dials x else x

    no_more : (p : Bool) → cond (not (if p then dials x else x).is_dialled) 1 0 ≤ cond (not x.is_dialled) 1 0
    no_more true = omega arith
    no_more false = omega arith

    rest_less : (ds : List Seat) → count_by (λ y. not y.is_dialled) (in_seats q dials ds) ≤ count_by (λ y. not y.is_dialled) ds
    rest_less [] = omega arith
    rest_less (d ∷ ds) =
        let u = count_cons (λ y. not y.is_dialled) d ds in
        let v = count_cons (λ y. not y.is_dialled) (if d.link.player == q then dials d else d) (in_seats q dials ds) in
        let here = each_less (d.link.player == q) in
        let more = rest_less ds in
        omega (arith, u, v, here, more)
      where
        each_less : (p : Bool) → cond (not (if p then dials d else d).is_dialled) 1 0 ≤ cond (not d.is_dialled) 1 0
        each_less true = omega arith
        each_less false = omega arith

    go : (j : ℕ) → slice_get (x ∷ cs) j ≡ Some c → count_by (λ y. not y.is_dialled) (x ∷ cs) ≡ cond (not x.is_dialled) 1 0 + count_by (λ y. not y.is_dialled) cs →
        count_by (λ y. not y.is_dialled) (in_seats q dials (x ∷ cs)) ≡ cond (not first.is_dialled) 1 0 + count_by (λ y. not y.is_dialled) (in_seats q dials cs) →
        ((j : ℕ) → slice_get cs j ≡ Some c → count_by (λ y. not y.is_dialled) (in_seats q dials cs) < count_by (λ y. not y.is_dialled) cs) →
        count_by (λ y. not y.is_dialled) (in_seats q dials (x ∷ cs)) < count_by (λ y. not y.is_dialled) (x ∷ cs)
    go zero h a b ih =
        let same : x ≡ c = cc in
        let old : cond (not x.is_dialled) 1 0 ≡ 1 = ap {B = ℕ} (λ (p : Bool). cond (not p) 1 0) (ap (λ (y : Seat). y.is_dialled) same ∙ f) in
        let is : (x.link.player == q) ≡ true = eq-eqb x.link.player q (ap (λ (y : Seat). y.link.player) same ∙ e) in
        let new : cond (not first.is_dialled) 1 0 ≡ 0 = ap {B = ℕ} (λ (p : Bool). cond (not (if p then dials x else x).is_dialled) 1 0) is in
        let more = rest_less cs in
        omega (arith, a, b, old, new, more)
    go (suc j) h a b ih =
        let less = ih j h in
        let here = no_more (x.link.player == q) in
        omega (arith, a, b, less, here)

dial_less : (l : LoopState) (k : ℕ) (c : Seat) (dial : Dial) → slice_get l.table.seats k ≡ Some c → c.is_dialled ≡ false → count_by (λ x. not x.is_dialled) (dialled_table l c dial).seats < undialled l
dial_less l k c (D.Socket s) g f = one_less l.table.seats k c.link.player c g refl f
dial_less l k c D.Failed g f = one_less l.table.seats k c.link.player c g refl f

dial_waits : (l : LoopState) (c : Seat) (dial : Dial) → (dialled_table l c dial).waiting ≡ l.table.waiting
dial_waits l c (D.Socket s) = refl
dial_waits l c D.Failed = refl

no_poll : (dial : Dial) (q : ℕ) (addr : Addr) → poll_count (dial_item dial q addr) ≡ 0
no_poll (D.Socket s) q addr = refl
no_poll D.Failed q addr = refl

pub dialled_so : (before after : List Item) (l m : LoopState) (k : ℕ) (c : Seat) (dial : Dial) → IsServing before l → DiffersBy (λ x. x.link.player) l.table.seats → IsNextDial l (Some k) → slice_get l.table.seats k ≡ Some c →
    OpensNew before (dial_item dial c.link.player (told_addr c.link.addr)) → after ≡ before ++ dial_item dial c.link.player (told_addr c.link.addr) ∷ [] → m ≡ with_table (dialled_table l c dial) l → Dials before after l m
dialled_so before after l m k c dial w d n g new on same =
    let is : n.0 ≡ c = (let e : Some n.0 ≡ Some c = sym n.1 ∙ g in cc) in
    let wants : wants_dial l.peer.me l.table c ≡ true = subst (λ (x : Seat). wants_dial l.peer.me l.table x ≡ true) is n.2 in
    let less = dial_less l k c dial g (dials_parts l.peer.me l.table c wants).1 in
    let goes = call_goes before after (dial_item dial c.link.player (told_addr c.link.addr)) l m (dialled_table l c dial) w.told w.steady.idle (record {
      still = no_poll dial c.link.player (told_addr c.link.addr);
      opens = new;
      allowed = dial_may l k c dial w.steady.idle w.clean d g wants;
      shows = dial_shows l c dial w.steady.idle;
      waiting = dial_waits l c dial;
      undialled = omega (arith, less);
    }) on same in
    record {
      goes = goes;
      serving = subst (IsServing after) (sym same) (record {
        told = subst (λ (x : LoopState). IsTold after (view_of x)) same goes.told;
        steady = record { idle = record { running = w.steady.idle.running; kept = w.steady.idle.kept; waiting = dial_waits l c dial ∙ w.steady.idle.waiting; handled = w.steady.idle.handled }; made = w.steady.made };
        clean = w.clean;
        synced = w.synced;
      });
      less = subst (λ (x : LoopState). undialled x < undialled l) (sym same) less;
    }

-- ---- the search for the next one

-- none of the first seats is to be dialled
abbrev pub NoneWanted : (me : ℕ) → Table → ℕ → Type 0
NoneWanted me t n = (k : ℕ) (c : Seat) → k < n → slice_get t.seats k ≡ Some c → wants_dial me t c ≡ false

pub none_before : (me : ℕ) (t : Table) → NoneWanted me t 0
none_before me t k c lt g = absurd (omega (arith, lt))

pub more_unwanted : (me : ℕ) (t : Table) (n : ℕ) (r : Bool) → NoneWanted me t n → ((c : Seat) → slice_get t.seats n ≡ Some c → r ≡ wants_dial me t c) → r ≡ false → NoneWanted me t (n + 1)
more_unwanted me t n r before is none k c lt g = go (k == n) refl
  where
    go : (b : Bool) → (k == n) ≡ b → wants_dial me t c ≡ false
    go true e = sym (is c (ap (slice_get t.seats) (sym (eqb-true k n e)) ∙ g)) ∙ none
    go false e = before k c (let q = eqb-false k n e in omega (arith, q, lt)) g
