-- ReadOnce: a read of a socket, and what is so behind it.
use Rattle.std.proofs.Common.{◌≡◌, ℕ, ◌+◌, ◌<◌, ◌≤◌, Bool, true, false, refl, sym, ap, subst, ◌∙◌, List, [], ◌∷◌, ◌++◌, arith, length}
use Rattle.std.specs.Prelude.{Option, Some, None, ◌&&◌, ◌||◌, ◌==◌, not, drop, map, take, slice_get, if◌then◌else◌, Result}
use Rattle.std.proofs.lemmas.Bool.{eq-eqb, eqb-true, lt-ltb, le-leb, and_from}
use Rattle.std.proofs.lemmas.List.{length-take-le}
use Rattle.definitions.specs.Findings.{is_clean}
use Rattle.definitions.specs.Lists.{is_empty}
use Rattle.socket_station.specs.declared.answers.SocketRead.{SocketRead}
use Rattle.socket_station.specs.declared.answers.SocketRead.TheVariants as R
use Rattle.socket_station.specs.Items.{Item, read_item}
use Rattle.socket_station.specs.Standings.{OpensNew}
use Rattle.socket_station.specs.Withins.{TakesWithin}
use Rattle.socket_lines.specs.declared.line.Line.{Line}
use Rattle.socket_lines.specs.Lines.{closed, quieted}
use Rattle.peer_rules.specs.declared.arrivals.Arrival.{Arrival}
use Rattle.loop_rules.specs.Tables.{Table, at_line, line_of, room_on, room_by, asks_shut}
use Rattle.loop_rules.specs.Hearing.{Hearer, took_on}
use Rattle.loop_rules.specs.Handling.{sorted, sorted_out}
use Rattle.loop_rules.specs.Rules.{wants_read, may_read_line, is_within, is_allowed}
use Rattle.loop_rules.specs.Views.{View}
use Rattle.loop_rules.specs.After as A
use Rattle.loop_rules.specs.Told.{Differ, IsTold}
use Rattle.loop_rules.proofs.Told.{told_goes_on}
use Rattle.loop_rules.proofs.Alike.{Alike, alike_took, alike_at, quieted_same, closed_same, Same}
use Rattle.ready_loop.specs.Hearers.{hearer_by}
use Rattle.socket_table.specs.Staying.{left_on, SeatsSame, more_unnamed}
use Rattle.socket_table.proofs.Seats.{took_seats, seats_same, same_undialled}
use Rattle.socket_table.proofs.ReadingRooms.{took_calm}
use Rattle.socket_table.proofs.Rooms.{took_left}
use Rattle.socket_list.proofs.Pairs.{map_at}
use Rattle.socket_list.proofs.Keys.{found_at}
use Rattle.ready_loop.proofs.Places.{sockets_same}
use Rattle.ready_loop.specs.declared.stops.Stop.{Stop}
use Rattle.ready_loop.specs.States.{LoopState, base_of, view_of}
use Rattle.ready_loop.specs.Steps.{with_table, read_on}
use Rattle.ready_loop.specs.Going.{Goes, IsIdle, poll_count}
use Rattle.ready_loop.specs.Handling.{KeepsLines, Handles, ReadsOnce, SameSockets, Calm, IsReadyToRead, Reads, left_by, left_at}
use Rattle.ready_loop.proofs.Going.{goes_one, goes_then}
use Rattle.ready_loop.proofs.Idle.{still_view, idle_view, hearer_same, serves_on}

-- ---- what is shown

-- a table without frames that wait
put_view : (l : LoopState) (t : Table) → l.handled ≡ 0 → t.waiting ≡ [] → view_of (with_table t l) ≡ record (base_of l) { table = t }
put_view l t first none = still_view (with_table t l) none first

pub read_shows : (s : ℕ) (read : SocketRead) (buf : List ℕ) (l : LoopState) → IsIdle l → A.after (view_of l) (read_item s read buf) ≡ view_of (with_table (read_on (hearer_by l.peer) s read buf l.table) l)
read_shows s read buf l w = ap (λ (v : View). A.after v (read_item s read buf)) (idle_view l w) ∙ go read
  where
    go : (r : SocketRead) → A.after (base_of l) (read_item s r buf) ≡ view_of (with_table (read_on (hearer_by l.peer) s r buf l.table) l)
    go (R.Took n) =
        ap (λ (h : Hearer). sorted_out (A.with_table (took_on h s (take n buf) l.table) (base_of l))) (hearer_same l w.kept)
        ∙ ap (λ (k : ℕ). sorted (drop k (took_on (hearer_by l.peer) s (take n buf) l.table).waiting) (base_of (with_table (took_on (hearer_by l.peer) s (take n buf) l.table) l))) (sym w.handled)
    go R.NotYet = sym (put_view l (at_line s quieted l.table) w.handled w.waiting)
    go R.Ended = sym (put_view l (at_line s closed l.table) w.handled w.waiting)
    go R.Failed = sym (put_view l (at_line s closed l.table) w.handled w.waiting)

-- ---- that it may be

reads_line : (l : LoopState) (s : ℕ) (x : Line) → IsIdle l → is_clean l.peer.game l.peer.entries ≡ true → line_of l.table s ≡ Some x → wants_read l.table x ≡ true → may_read_line (base_of l) (line_of l.table s) ≡ true
reads_line l s x w clean found wants = ap (may_read_line (base_of l)) found ∙ and_from _ _ (serves_on l w clean) wants

takes_within : (l : LoopState) (s : ℕ) (x : Line) (bytes : List ℕ) → line_of l.table s ≡ Some x → 0 < length bytes → length bytes ≤ room_on l.table x → is_within l.table (length bytes) (line_of l.table s) ≡ true
takes_within l s x bytes found some few = ap (is_within l.table (length bytes)) found ∙ and_from _ _ (lt-ltb 0 (length bytes) some) (le-leb (length bytes) (room_on l.table x) few)

pub read_may : (s : ℕ) (read : SocketRead) (buf : List ℕ) (l : LoopState) (x : Line) → IsIdle l → is_clean l.peer.game l.peer.entries ≡ true → line_of l.table s ≡ Some x → wants_read l.table x ≡ true → TakesWithin read buf → length buf ≤ room_on l.table x →
    is_allowed (view_of l) (read_item s read buf) ≡ true
read_may s read buf l x w clean found wants within few = ap (λ (v : View). is_allowed v (read_item s read buf)) (idle_view l w) ∙ go read within
  where
    may : may_read_line (base_of l) (line_of l.table s) ≡ true
    may = reads_line l s x w clean found wants

    go : (r : SocketRead) → TakesWithin r buf → is_allowed (base_of l) (read_item s r buf) ≡ true
    go (R.Took n) t =
        let long : length (take n buf) ≡ n = length-take-le n buf t.1 in
        and_from _ _ (and_from _ _ may (ap (is_empty {X = Arrival}) w.waiting))
        (takes_within l s x (take n buf) found (subst (λ (k : ℕ). 0 < k) (sym long) t.0) (let a = t.1 in omega (arith, long, a, few)))
    go R.NotYet t = may
    go R.Ended t = may
    go R.Failed t = may

opens_none : (items : List Item) (s : ℕ) (read : SocketRead) (buf : List ℕ) → OpensNew items (read_item s read buf)
opens_none items s (R.Took n) buf = tt
opens_none items s R.NotYet buf = tt
opens_none items s R.Ended buf = tt
opens_none items s R.Failed buf = tt

no_poll : (s : ℕ) (read : SocketRead) (buf : List ℕ) → poll_count (read_item s read buf) ≡ 0
no_poll s (R.Took n) buf = refl
no_poll s R.NotYet buf = refl
no_poll s R.Ended buf = refl
no_poll s R.Failed buf = refl

pub read_seats : (h : Hearer) (s : ℕ) (read : SocketRead) (buf : List ℕ) (t : Table) → SeatsSame t.seats (read_on h s read buf t).seats
read_seats h s (R.Took n) buf t = took_seats h s (take n buf) t
read_seats h s R.NotYet buf t = seats_same t.seats
read_seats h s R.Ended buf t = seats_same t.seats
read_seats h s R.Failed buf t = seats_same t.seats

-- the line at the place, which is to be read
pub record ReadsAt (l : LoopState) (k s : ℕ) : Type 0 where
  pub line : Line
  pub here : slice_get l.table.lines k ≡ Some line
  pub socket : line.socket ≡ s
  pub wants : wants_read l.table line ≡ true
  pub differ : Differ l.table.lines

read_found : (l : LoopState) (k s : ℕ) (a : ReadsAt l k s) → line_of l.table s ≡ Some a.line
read_found l k s a = found_at (λ x. x.socket) s l.table.lines k a.line a.differ a.here a.socket

pub read_goes : (k s : ℕ) (read : SocketRead) (before after : List Item) (l m : LoopState) → IsReadyToRead before l → ReadsAt l k s → ReadsOnce s read before after l m → Goes before after l m
read_goes k s read before after l m w a r =
    subst (λ (x : LoopState). Goes before after l x) (sym r.state)
    (goes_one before after (read_item s read r.buf) l (with_table (read_on (hearer_by l.peer) s read r.buf l.table) l) r.told (no_poll s read r.buf) (opens_none before s read r.buf) refl
    (let e = same_undialled l.table.seats (read_on (hearer_by l.peer) s read r.buf l.table).seats (read_seats (hearer_by l.peer) s read r.buf l.table) in omega (arith, e))
    (subst (IsTold (before ++ read_item s read r.buf ∷ [])) (read_shows s read r.buf l w.steady.idle)
    (told_goes_on before (view_of l) (read_item s read r.buf) w.told (opens_none before s read r.buf)
    (read_may s read r.buf l a.line w.steady.idle w.clean (read_found l k s a) a.wants r.within (r.room a.line k a.here a.socket)))) refl)

-- ---- what it leaves as it was

put_other : (s : ℕ) (f : Line → Line) (t : Table) (k : ℕ) (x y : Line) → slice_get t.lines k ≡ Some x → slice_get (at_line s f t).lines k ≡ Some y → (x.socket ≡ s → ⊥) → y ≡ x
put_other s f t k x y g h n =
    let there = map_at (λ l. if l.socket == s then f l else l) t.lines k x g in
    let e : Some y ≡ Some (if x.socket == s then f x else x) = sym h ∙ there in
    (let r : y ≡ (if x.socket == s then f x else x) = cc in r) ∙ other (x.socket == s) refl
  where
    other : (b : Bool) → (x.socket == s) ≡ b → (if b then f x else x) ≡ x
    other true w = absurd (n (eqb-true x.socket s w))
    other false w = refl

put_calm : (s : ℕ) (f : Line → Line) (t : Table) → Calm s t (at_line s f t)
put_calm s f t k x y g h n wants = subst (λ (z : Line). wants_read t z ≡ true) (put_other s f t k x y g h n) wants

read_calm : (h : Hearer) (s : ℕ) (read : SocketRead) (buf : List ℕ) (t : Table) → Calm s t (read_on h s read buf t)
read_calm h s (R.Took n) buf t = λ k x y g i no wants. took_calm h s (take n buf) t k x y g i no wants
read_calm h s R.NotYet buf t = put_calm s quieted t
read_calm h s R.Ended buf t = put_calm s closed t
read_calm h s R.Failed buf t = put_calm s closed t

alike_sockets : (ls ms : List Line) → Alike ls ms → map (λ l. l.socket) ms ≡ map (λ l. l.socket) ls
alike_sockets ls ms a = sockets_same Same (λ l m w. w.socket) ls ms a

read_sockets : (h : Hearer) (s : ℕ) (read : SocketRead) (buf : List ℕ) (t : Table) → SameSockets t (read_on h s read buf t)
read_sockets h s (R.Took n) buf t = alike_sockets t.lines (took_on h s (take n buf) t).lines (alike_took h t s (take n buf) (line_of t s))
read_sockets h s R.NotYet buf t = alike_sockets t.lines (at_line s quieted t).lines (alike_at s quieted quieted_same t.lines)
read_sockets h s R.Ended buf t = alike_sockets t.lines (at_line s closed t).lines (alike_at s closed closed_same t.lines)
read_sockets h s R.Failed buf t = alike_sockets t.lines (at_line s closed t).lines (alike_at s closed closed_same t.lines)

-- ---- how much is left

put_none : (s : ℕ) (f : Line → Line) (t : Table) (k : ℕ) (x : Line) → slice_get t.lines k ≡ Some x → x.socket ≡ s → ((u : Table) → wants_read u (f x) ≡ false) → left_by (at_line s f t) (slice_get (at_line s f t).lines k) ≡ 0
put_none s f t k x g e none =
    ap (left_by (at_line s f t)) (map_at (λ l. if l.socket == s then f l else l) t.lines k x g)
    ∙ ap (λ (b : Bool). left_by (at_line s f t) (Some (if b then f x else x))) (eq-eqb x.socket s e)
    ∙ ap (λ (b : Bool). if b then left_on (at_line s f t) (f x) + 1 else 0) (none (at_line s f t))

quiet_none : (x : Line) (u : Table) → wants_read u (quieted x) ≡ false
quiet_none x u = go (x.is_open) (asks_shut u (quieted x))
  where
    go : (a b : Bool) → (a && not b && not true) ≡ false
    go true true = refl
    go true false = refl
    go false b = refl

read_left : (h : Hearer) (s : ℕ) (read : SocketRead) (buf : List ℕ) (t : Table) (k : ℕ) (x : Line) → Differ t.lines → slice_get t.lines k ≡ Some x → x.socket ≡ s → wants_read t x ≡ true → TakesWithin read buf → length buf ≤ room_on t x →
    left_by (read_on h s read buf t) (slice_get (read_on h s read buf t).lines k) < left_by t (slice_get t.lines k)
read_left h s read buf t k x d g e wants within few = subst (λ (n : ℕ). left_by (read_on h s read buf t) (slice_get (read_on h s read buf t).lines k) < n) (sym start) (go read within)
  where
    start : left_by t (slice_get t.lines k) ≡ left_on t x + 1
    start = ap (left_by t) g ∙ ap (λ (b : Bool). if b then left_on t x + 1 else 0) wants

    nothing : (n : ℕ) → n ≡ 0 → n < left_on t x + 1
    nothing n z = omega (arith, z)

    took : (n : ℕ) → TakesWithin (R.Took n) buf → (o : Option Line) → slice_get (took_on h s (take n buf) t).lines k ≡ o → left_by (took_on h s (take n buf) t) o < left_on t x + 1
    took n w None i = omega arith
    took n w (Some y) i = go (wants_read u y)
      where
        u : Table
        u = took_on h s (take n buf) t

        long : length (take n buf) ≡ n
        long = length-take-le n buf w.1

        less : left_on u y < left_on t x
        less = took_left h s (take n buf) t k x y d g e i (subst (λ (j : ℕ). 0 < j) (sym long) w.0) (let a = w.1 in let b = long in omega (arith, b, a, few))

        go : (b : Bool) → (if b then left_on u y + 1 else 0) < left_on t x + 1
        go true = (let l = less in omega (arith, l))
        go false = omega arith

    go : (r : SocketRead) → TakesWithin r buf → left_by (read_on h s r buf t) (slice_get (read_on h s r buf t).lines k) < left_on t x + 1
    go (R.Took n) w = took n w (slice_get (took_on h s (take n buf) t).lines k) refl
    go R.NotYet w = nothing (left_by (at_line s quieted t) (slice_get (at_line s quieted t).lines k)) (put_none s quieted t k x g e (quiet_none x))
    go R.Ended w = nothing (left_by (at_line s closed t) (slice_get (at_line s closed t).lines k)) (put_none s closed t k x g e (λ u. refl))
    go R.Failed w = nothing (left_by (at_line s closed t) (slice_get (at_line s closed t).lines k)) (put_none s closed t k x g e (λ u. refl))

-- ---- where nothing changes but seats that have the same room

room_same : (t u : Table) (x : Line) → KeepsLines t u → room_on u x ≡ room_on t x
room_same t u x w = go x.name
  where
    go : (o : Option ℕ) → room_by u x o ≡ room_by t x o
    go None = refl
    go (Some q) = w.rooms q

wants_same : (t u : Table) (x : Line) → KeepsLines t u → wants_read u x ≡ wants_read t x
wants_same t u x w = ap (λ (n : ℕ). x.is_open && not (x.is_open && (x.is_wrong || (n == 0))) && not x.is_quiet) (room_same t u x w)

left_same : (t u : Table) (k : ℕ) → KeepsLines t u → left_by u (slice_get u.lines k) ≡ left_by t (slice_get t.lines k)
left_same t u k w = ap (λ (ls : List Line). left_by u (slice_get ls k)) w.lines ∙ go (slice_get t.lines k)
  where
    go : (o : Option Line) → left_by u o ≡ left_by t o
    go None = refl
    go (Some x) = ap (λ (b : Bool). if b then left_on u x + 1 else 0) (wants_same t u x w) ∙ ap (λ (n : ℕ). if wants_read t x then (n + more_unnamed x.name) + 1 else 0) (room_same t u x w)

calm_keeps : (s : ℕ) (t u v : Table) → Calm s t u → KeepsLines u v → Calm s t v
calm_keeps s t u v c w k x y g h n wants = c k x y g (ap (λ (ls : List Line). slice_get ls k) (sym w.lines) ∙ h) n (sym (wants_same u v y w) ∙ wants)

-- ---- a read, and what it brought handled

pub reads_once : (answer : Result (Unit {0}) Stop) (k s : ℕ) (read : SocketRead) (before mid after : List Item) (l m n : LoopState) → IsReadyToRead before l → ReadsAt l k s → ReadsOnce s read before mid l m → Handles answer mid after m n → Reads answer k s before after l n
reads_once answer k s read before mid after l m n w a r h = record {
  goes = goes_then before mid after l m n (read_goes k s read before mid l m w a r) h.goes;
  stands = h.stands;
  sockets = ap (map (λ x. x.socket)) keeps.lines ∙ read_sockets (hearer_by l.peer) s read r.buf l.table;
  calm = calm_keeps s l.table u n.table (read_calm (hearer_by l.peer) s read r.buf l.table) keeps;
  less = subst (λ (j : ℕ). j < left_at k l) (sym (left_same u n.table k keeps)) (read_left (hearer_by l.peer) s read r.buf l.table k a.line a.differ a.here a.socket a.wants r.within (r.room a.line k a.here a.socket));
}
  where
    u : Table
    u = read_on (hearer_by l.peer) s read r.buf l.table

    keeps : KeepsLines u n.table
    keeps = subst (λ (x : LoopState). KeepsLines x.table n.table) r.state h.keeps
