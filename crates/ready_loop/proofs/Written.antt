-- Written: a write on a socket, and what is so behind it.
use Rattle.std.proofs.Common.{◌≡◌, ℕ, zero, suc, ◌+◌, ◌<◌, ◌≤◌, Bool, true, false, refl, sym, ap, subst, ◌∙◌, List, [], ◌∷◌, ◌++◌, arith, length}
use Rattle.std.specs.Prelude.{Option, Some, None, not, ◌&&◌, ◌||◌, ◌==◌, nat_lt, take, slice_get, is_some, if◌then◌else◌}
use Rattle.std.proofs.lemmas.Bool.{eq-eqb, lt-ltb, ltb-true, and_from}
use Rattle.std.proofs.lemmas.List.{length-take-le}
use Rattle.std.proofs.lemmas.Slice.Eq.{bytes_eq-Decides}
use Rattle.std.proofs.lemmas.Option.{slice_get_within}
use Rattle.definitions.specs.Lists.{is_empty}
use Rattle.definitions.specs.declared.frames.TurnFrame.{TurnFrame}
use Rattle.definitions.specs.declared.logs.Entry.{Entry}
use Rattle.definitions.specs.Logs.{made}
use Rattle.definitions.specs.Honest.{made_count}
use Rattle.socket_station.specs.declared.answers.SocketWrite.{SocketWrite}
use Rattle.socket_station.specs.declared.answers.SocketWrite.TheVariants as O
use Rattle.socket_station.specs.Standings.{OpensNew}
use Rattle.socket_station.specs.Withins.{GivesWithin}
use Rattle.socket_station.specs.Items.{Item, write_item}
use Rattle.socket_lines.specs.declared.line.Line.{Line}
use Rattle.socket_lines.specs.declared.seat.Seat.{Seat}
use Rattle.socket_lines.specs.Lines.{closed, blocked, player_of}
use Rattle.socket_lines.specs.Giving.{Desk, Speaker, own_due, want_or_own, named_due, hello_or, frame_of, frame_due, spelled, due_bytes, has_due}
use Rattle.wire_frames.specs.declared.frames.Frame.{Frame}
use Rattle.wire_frames.specs.declared.frames.Frame.TheVariants.{Hello, Turn, Want}
use Rattle.wire_frames.specs.Spelling.{spelling}
use Rattle.commitment.specs.Spelling.{frame_bytes}
use Rattle.definitions.specs.declared.frames.TurnFrame.TheVariants.{Commit, Reveal}
use Rattle.loop_rules.specs.Tables.{Table, at_line, line_of, seat_by, desk_of, desk_with, asks_shut}
use Rattle.loop_rules.specs.Licence.{all_is_shut, is_served_out, has_due_on, has_due_at}
use Rattle.loop_rules.specs.Rules.{is_allowed, may_write_line, are_due, is_front, due_at}
use Rattle.loop_rules.specs.Views.{safe_frames}
use Rattle.loop_rules.specs.After as A
use Rattle.loop_rules.specs.Told.{Differ, DiffersBy}
use Rattle.socket_table.specs.Staying.{Milder, SeatsSame, work_on}
use Rattle.socket_list.proofs.Pairs.{map_at}
use Rattle.socket_table.proofs.Seats.{gave_seats, seats_same, same_undialled}
use Rattle.socket_table.proofs.Milder.{gave_milder, closed_milder, blocked_milder}
use Rattle.socket_table.proofs.Work.{due_few, gave_less, gave_desk}
use Rattle.socket_table.proofs.Others.{gave_others, closed_others, blocked_others}
use Rattle.ready_loop.specs.States.{LoopState, base_of}
use Rattle.ready_loop.specs.Steps.{with_table, wrote_on}
use Rattle.ready_loop.specs.Going.{poll_count}
use Rattle.ready_loop.specs.Serving.{speaker_by, own_by, IsServing, Serves, wants_write, work_by, work_with, work_at, ServedBeside, Writes}
use Rattle.ready_loop.proofs.Idle.{all_kept, serves_on}
use Rattle.ready_loop.proofs.Places.{place_of_all}
use Rattle.ready_loop.proofs.Served.{call_serves, line_found, lines_differ}

-- ---- what may be written

-- the line is open, no write on it was refused, and something is due
pub wants_parts : (made : ℕ) (t : Table) (x : Line) → wants_write made t x ≡ true → (x.is_open ≡ true) × (x.is_blocked ≡ false) × (has_due_on made t x ≡ true)
wants_parts made t x e = go x.is_open x.is_blocked (has_due_on made t x) e
  where
    go : (o b d : Bool) → not (not o || b || not d) ≡ true → (o ≡ true) × (b ≡ false) × (d ≡ true)
    go true false true e = (refl, refl, refl)
    go true false false e = absurd (cc)
    go true true d e = absurd (cc)
    go false b d e = absurd (cc)

-- what may be given are all own frames: every entry is kept and synced
safe_all : (l : LoopState) → l.kept ≡ length l.peer.entries → l.synced ≡ l.kept → safe_frames (base_of l) ≡ made l.peer.entries
safe_all l kept synced =
    ap (λ (h : List Entry). made (take l.synced h)) (all_kept l kept)
    ∙ ap (λ (n : ℕ). made (take n l.peer.entries)) synced
    ∙ ap made (all_kept l kept)

-- the line beside its seat
desk_is : (t : Table) (x : Line) (d : Desk) → desk_of t x ≡ Some d → d.line ≡ x
desk_is t x d e = go (seat_by t (player_of x)) e
  where
    go : (o : Option Seat) → desk_with x o ≡ Some d → d.line ≡ x
    go None e = absurd (let q : None ≡ Some d = e in cc)
    go (Some c) e = ap (λ (y : Desk). y.line) (let q : d ≡ record { line = x; seat = c } = cc in q)

-- one call of a write on the line at the place
pub record WritesLine (l : LoopState) (k s : ℕ) (x : Line) : Type 0 where
  pub here : slice_get l.table.lines k ≡ Some x
  pub socket : x.socket ≡ s
  pub shut : all_is_shut l.table ≡ true
  pub wants : wants_write (made_count l.peer.entries) l.table x ≡ true
  pub some : is_empty (due_at (speaker_by l) (own_by l x) (desk_of l.table x)) ≡ false
  pub few : length (due_at (speaker_by l) (own_by l x) (desk_of l.table x)) ≤ 64
  pub differ : DiffersBy (λ c. c.link.player) l.table.seats

-- ---- what is due is there

spelled_some : (f : Frame) → is_empty (spelling f) ≡ false
unfolding spelling frame_bytes
spelled_some (Hello id p pass next) = refl
spelled_some (Turn (Commit p t d)) = refl
spelled_some (Turn (Reveal p t m n)) = refl
spelled_some (Want place) = refl

there_is : (fs : List TurnFrame) (n : ℕ) → nat_lt n (length fs) ≡ true → is_some (slice_get fs n) ≡ true
there_is [] n e = absurd (let lt = ltb-true n 0 e in omega (arith, lt))
there_is (f ∷ fs) zero e = refl
there_is (f ∷ fs) (suc n) e = there_is fs n (let lt = ltb-true (suc n) (length (f ∷ fs)) e in lt-ltb n (length fs) (omega (arith, lt)))

-- where something is due, bytes are
pub due_some : (k : Speaker) (fs : List TurnFrame) (d : Desk) → has_due (length fs) d ≡ true → is_empty (due_bytes k (slice_get fs d.line.cursor) d) ≡ false
due_some k fs d e = go (is_empty d.line.unsent) refl e
  where
    own : Option TurnFrame
    own = slice_get fs d.line.cursor

    own_some : (o : Option TurnFrame) → is_some o ≡ true → is_empty (spelled (frame_of k d.seat.link.shows (own_due o))) ≡ false
    own_some None w = absurd (cc)
    own_some (Some f) w = spelled_some (Turn f)

    asked_some : (asks : List ℕ) → (not (is_empty asks) || nat_lt d.line.cursor (length fs)) ≡ true → is_empty (spelled (frame_of k d.seat.link.shows (want_or_own (slice_get asks 0) own))) ≡ false
    asked_some [] w = own_some own (there_is fs d.line.cursor w)
    asked_some (place ∷ asks) w = spelled_some (Want place)

    named_some : (name : Option ℕ) → (is_some name && (not (is_empty d.seat.asks.due) || nat_lt d.line.cursor (length fs))) ≡ true →
        is_empty (spelled (frame_of k d.seat.link.shows (named_due name (want_or_own (slice_get d.seat.asks.due 0) own)))) ≡ false
    named_some None w = absurd (cc)
    named_some (Some q) w = asked_some d.seat.asks.due w

    hello_some : (hello : Option ℕ) → (is_some hello || (is_some d.line.name && (not (is_empty d.seat.asks.due) || nat_lt d.line.cursor (length fs)))) ≡ true →
        is_empty (spelled (frame_of k d.seat.link.shows (hello_or hello (named_due d.line.name (want_or_own (slice_get d.seat.asks.due 0) own))))) ≡ false
    hello_some None w = named_some d.line.name w
    hello_some (Some next) w = spelled_some (Hello k.id k.me d.seat.link.shows next)

    go : (b : Bool) → is_empty d.line.unsent ≡ b → (not b || is_some d.line.hello || (is_some d.line.name && (not (is_empty d.seat.asks.due) || nat_lt d.line.cursor (length fs)))) ≡ true → is_empty (if b then spelled (frame_due k own d) else d.line.unsent) ≡ false
    go true w e = hello_some d.line.hello e
    go false w e = w

-- what may go out on the line
due_at_some : (k : Speaker) (fs : List TurnFrame) (t : Table) (x : Line) → has_due_on (length fs) t x ≡ true → is_empty (due_at k (slice_get fs x.cursor) (desk_of t x)) ≡ false
due_at_some k fs t x e = go (seat_by t (player_of x)) e
  where
    go : (o : Option Seat) → has_due_at (length fs) (desk_with x o) ≡ true → is_empty (due_at k (slice_get fs x.cursor) (desk_with x o)) ≡ false
    go None e = absurd (cc)
    go (Some c) e = due_some k fs (record { line = x; seat = c }) e

pub due_there : (l : LoopState) (x : Line) → wants_write (made_count l.peer.entries) l.table x ≡ true → is_empty (due_at (speaker_by l) (own_by l x) (desk_of l.table x)) ≡ false
due_there l x e = due_at_some (speaker_by l) (made l.peer.entries) l.table x (wants_parts (made_count l.peer.entries) l.table x e).2

-- ---- the call

own_same : (items : List Item) (l : LoopState) (x : Line) → IsServing items l → A.own_at (safe_frames (base_of l)) x ≡ own_by l x
own_same items l x w = ap (λ (fs : List TurnFrame). slice_get fs x.cursor) (safe_all l w.steady.idle.kept w.synced)

line_may : (items : List Item) (l : LoopState) (k s : ℕ) (x : Line) → IsServing items l → WritesLine l k s x → line_of l.table s ≡ Some x → may_write_line (base_of l) (line_of l.table s) ≡ true
line_may items l k s x w a found =
    let p = wants_parts (made_count l.peer.entries) l.table x a.wants in
    ap (may_write_line (base_of l)) found
    ∙ and_from _ _ (and_from _ _ (and_from _ _ (and_from _ _ (serves_on l w.steady.idle w.clean) p.0) (place_of_all (λ y. not (asks_shut l.table y)) l.table.lines k x a.shut a.here)) (ap not p.1))
    (ap (λ (o : Option TurnFrame). not (is_empty (due_at (speaker_by l) o (desk_of l.table x)))) (own_same items l x w) ∙ ap not a.some)

front_of : (n : ℕ) (all : List ℕ) → 0 < n → n ≤ length all → is_front (take n all) all ≡ true
front_of n all some few =
    let long : length (take n all) ≡ n = length-take-le n all few in
    and_from _ _ (lt-ltb 0 (length (take n all)) (subst (λ (m : ℕ). 0 < m) (sym long) some))
    ((bytes_eq-Decides (take n all) (take (length (take n all)) all)).1 (ap (λ (m : ℕ). take m all) (sym long)))

write_may : (items : List Item) (l : LoopState) (k s : ℕ) (x : Line) (write : SocketWrite) → IsServing items l → WritesLine l k s x → line_of l.table s ≡ Some x → GivesWithin write (due_at (speaker_by l) (own_by l x) (desk_of l.table x)) →
    is_allowed (base_of l) (write_item s write (due_at (speaker_by l) (own_by l x) (desk_of l.table x))) ≡ true
write_may items l k s x (O.Gave n) w a found g =
    and_from _ _ (line_may items l k s x w a found)
    (ap (are_due (base_of l) (take n (due_at (speaker_by l) (own_by l x) (desk_of l.table x)))) found
    ∙ ap (λ (o : Option TurnFrame). is_front (take n (due_at (speaker_by l) (own_by l x) (desk_of l.table x))) (due_at (speaker_by l) o (desk_of l.table x))) (own_same items l x w)
    ∙ front_of n (due_at (speaker_by l) (own_by l x) (desk_of l.table x)) g.0 g.1)
write_may items l k s x O.NotYet w a found g = line_may items l k s x w a found
write_may items l k s x O.Failed w a found g = line_may items l k s x w a found

-- the table after the call
abbrev pub wrote : LoopState → (s : ℕ) → Line → SocketWrite → Table
wrote l s x write = wrote_on (speaker_by l) (own_by l x) s write (desk_of l.table x) l.table

-- bytes were given: of those that go out next on the line of the socket, with the own frames that are made
gave_is : (l : LoopState) (s n : ℕ) (x : Line) → line_of l.table s ≡ Some x → A.gave_by (speaker_by l) (made l.peer.entries) n l.table (line_of l.table s) ≡ wrote l s x (O.Gave n)
gave_is l s n x found = ap (A.gave_by (speaker_by l) (made l.peer.entries) n l.table) found

write_shows : (items : List Item) (l : LoopState) (s : ℕ) (x : Line) (write : SocketWrite) → IsServing items l → line_of l.table s ≡ Some x → GivesWithin write (due_at (speaker_by l) (own_by l x) (desk_of l.table x)) →
    A.after (base_of l) (write_item s write (due_at (speaker_by l) (own_by l x) (desk_of l.table x))) ≡ record (base_of l) { table = wrote l s x write }
write_shows items l s x (O.Gave n) w found g =
    ap (λ (fs : List TurnFrame). A.with_table (A.gave_by (speaker_by l) fs (length (take n (due_at (speaker_by l) (own_by l x) (desk_of l.table x)))) l.table (line_of l.table s)) (base_of l)) (safe_all l w.steady.idle.kept w.synced)
    ∙ ap (λ (m : ℕ). A.with_table (A.gave_by (speaker_by l) (made l.peer.entries) m l.table (line_of l.table s)) (base_of l)) (length-take-le n (due_at (speaker_by l) (own_by l x) (desk_of l.table x)) g.1)
    ∙ ap (λ (t : Table). A.with_table t (base_of l)) (gave_is l s n x found)
write_shows items l s x O.NotYet w found g = refl
write_shows items l s x O.Failed w found g = refl

no_poll : (s : ℕ) (write : SocketWrite) (bytes : List ℕ) → poll_count (write_item s write bytes) ≡ 0
no_poll s (O.Gave n) bytes = refl
no_poll s O.NotYet bytes = refl
no_poll s O.Failed bytes = refl

opens_none : (items : List Item) (s : ℕ) (write : SocketWrite) (bytes : List ℕ) → OpensNew items (write_item s write bytes)
opens_none items s (O.Gave n) bytes = tt
opens_none items s O.NotYet bytes = tt
opens_none items s O.Failed bytes = tt

wrote_milder : (items : List Item) (l : LoopState) (k s : ℕ) (x : Line) (write : SocketWrite) → Differ l.table.lines → WritesLine l k s x → line_of l.table s ≡ Some x → Milder l.table (wrote l s x write)
wrote_milder items l k s x (O.Gave n) d a found = subst (Milder l.table) (gave_is l s n x found) (gave_milder (speaker_by l) (made l.peer.entries) n s l.table d a.differ)
wrote_milder items l k s x O.NotYet d a found = blocked_milder s l.table
wrote_milder items l k s x O.Failed d a found = closed_milder s l.table

pub wrote_seats : (l : LoopState) (k s : ℕ) (x : Line) (write : SocketWrite) → WritesLine l k s x → line_of l.table s ≡ Some x → SeatsSame l.table.seats (wrote l s x write).seats
wrote_seats l k s x (O.Gave n) a found = subst (λ (t : Table). SeatsSame l.table.seats t.seats) (gave_is l s n x found) (gave_seats (speaker_by l) (made l.peer.entries) n s l.table a.differ)
wrote_seats l k s x O.NotYet a found = seats_same l.table.seats
wrote_seats l k s x O.Failed a found = seats_same l.table.seats

gave_waits : (k : Speaker) (own : Option TurnFrame) (n : ℕ) (t : Table) (o : Option Desk) → (A.gave_with k own n t o).waiting ≡ t.waiting
gave_waits k own n t None = refl
gave_waits k own n t (Some d) = refl

pub wrote_waits : (l : LoopState) (s : ℕ) (x : Line) (write : SocketWrite) → (wrote l s x write).waiting ≡ l.table.waiting
wrote_waits l s x (O.Gave n) = gave_waits (speaker_by l) (own_by l x) n l.table (desk_of l.table x)
wrote_waits l s x O.NotYet = refl
wrote_waits l s x O.Failed = refl

pub write_serves : (items after : List Item) (l m : LoopState) (k s : ℕ) (x : Line) (write : SocketWrite) → IsServing items l → WritesLine l k s x → GivesWithin write (due_at (speaker_by l) (own_by l x) (desk_of l.table x)) →
    after ≡ items ++ write_item s write (due_at (speaker_by l) (own_by l x) (desk_of l.table x)) ∷ [] → m ≡ with_table (wrote l s x write) l → Serves items after l m
write_serves items after l m k s x write w a g on same =
    let found = line_found items l k s x w.told w.steady.idle a.here a.socket in
    call_serves items after (write_item s write (due_at (speaker_by l) (own_by l x) (desk_of l.table x))) l m (wrote l s x write) w (record {
      still = no_poll s write _;
      opens = opens_none items s write _;
      allowed = write_may items l k s x write w a found g;
      shows = write_shows items l s x write w found g;
      waiting = wrote_waits l s x write;
      undialled = (let e = same_undialled l.table.seats (wrote l s x write).seats (wrote_seats l k s x write a found) in omega (arith, e));
    }) (wrote_milder items l k s x write (lines_differ items l w.told w.steady.idle) a found) on same

-- ---- what it leaves on other lines, and on this one

wrote_beside : (items : List Item) (l : LoopState) (k s : ℕ) (x : Line) (write : SocketWrite) → IsServing items l → WritesLine l k s x → ServedBeside s l (with_table (wrote l s x write) l)
wrote_beside items l k s x write w a i y z g h differs served =
    let found = line_found items l k s x w.told w.steady.idle a.here a.socket in
    let differ = lines_differ items l w.told w.steady.idle in
    go write found differ h
  where
    go : (r : SocketWrite) → line_of l.table s ≡ Some x → Differ l.table.lines → slice_get (wrote l s x r).lines i ≡ Some z → is_served_out (made_count l.peer.entries) (wrote l s x r) z ≡ true
    go (O.Gave n) found differ h =
        subst (λ (t : Table). slice_get t.lines i ≡ Some z → is_served_out (made_count l.peer.entries) t z ≡ true) (gave_is l s n x found)
        (λ h. gave_others (speaker_by l) (made l.peer.entries) n s (made_count l.peer.entries) l.table i y z differ a.differ g h differs served) h
    go O.NotYet found differ h = blocked_others s (made_count l.peer.entries) l.table i y z g h differs served
    go O.Failed found differ h = closed_others s (made_count l.peer.entries) l.table i y z g h differs served

-- after a write that gives nothing, nothing more is to be written there
put_served : (s made : ℕ) (f : Line → Line) (t : Table) (k : ℕ) (x : Line) → slice_get t.lines k ≡ Some x → x.socket ≡ s → ((u : Table) → wants_write made u (f x) ≡ false) →
    work_with made (at_line s f t) (slice_get (at_line s f t).lines k) ≡ 0
put_served s made f t k x g e none =
    ap (work_with made (at_line s f t)) (map_at (λ l. if l.socket == s then f l else l) t.lines k x g)
    ∙ ap (λ (b : Bool). work_with made (at_line s f t) (Some (if b then f x else x))) (eq-eqb x.socket s e)
    ∙ ap (λ (b : Bool). if b then work_by made (desk_of (at_line s f t) (f x)) + 1 else 0) (none (at_line s f t))

blocked_none : (made : ℕ) (x : Line) (u : Table) → wants_write made u (blocked x) ≡ false
blocked_none made x u = go x.is_open
  where
    go : (o : Bool) → not (not o || true || not (has_due_on made u (blocked x))) ≡ false
    go true = refl
    go false = refl

cursor_made : (l : LoopState) (x : Line) (f : TurnFrame) → own_by l x ≡ Some f → x.cursor < made_count l.peer.entries
cursor_made l x f e = slice_get_within (made l.peer.entries) x.cursor f e

work_less : (l : LoopState) (k s n : ℕ) (x : Line) (d : Desk) → Differ l.table.lines → WritesLine l k s x → line_of l.table s ≡ Some x → 0 < n → n ≤ length (due_at (speaker_by l) (own_by l x) (desk_of l.table x)) → desk_of l.table x ≡ Some d →
    (o : Option Line) → slice_get (wrote l s x (O.Gave n)).lines k ≡ o → work_with (made_count l.peer.entries) (wrote l s x (O.Gave n)) o < work_by (made_count l.peer.entries) (desk_of l.table x) + 1
work_less l k s n x d differ a found some few desk None h = omega arith
work_less l k s n x d differ a found some few desk (Some y) h = go (wants_write made_all u y)
  where
    made_all : ℕ
    made_all = made_count l.peer.entries

    u : Table
    u = wrote l s x (O.Gave n)

    same : u ≡ A.gave_with (speaker_by l) (own_by l x) n l.table (Some d)
    same = ap (A.gave_with (speaker_by l) (own_by l x) n l.table) desk

    line : d.line ≡ x
    line = desk_is l.table x d desk

    all : due_at (speaker_by l) (own_by l x) (desk_of l.table x) ≡ due_bytes (speaker_by l) (own_by l x) d
    all = ap (due_at (speaker_by l) (own_by l x)) desk

    less : work_on made_all (A.gave_on (speaker_by l) (own_by l x) n d) < work_on made_all d
    less = gave_less made_all (speaker_by l) (own_by l x) n d (λ f e. subst (λ (z : Line). z.cursor < made_all) (sym line) (cursor_made l x f e))
        (due_few (speaker_by l) (own_by l x) d (subst (λ (bytes : List ℕ). length bytes ≤ 64) all a.few)) some (subst (λ (bytes : List ℕ). n ≤ length bytes) all few)

    behind : desk_of u y ≡ Some (A.gave_on (speaker_by l) (own_by l x) n d)
    behind = ap (λ (t : Table). desk_of t y) same ∙ gave_desk (speaker_by l) (own_by l x) n l.table k x y d differ a.differ a.here desk (ap (λ (t : Table). slice_get t.lines k) (sym same) ∙ h)

    go : (b : Bool) → (if b then work_by made_all (desk_of u y) + 1 else 0) < work_by made_all (desk_of l.table x) + 1
    go true =
        subst (λ (o : Option Desk). work_by made_all (desk_of u y) + 1 < work_by made_all o + 1) (sym desk)
        (subst (λ (o : Option Desk). work_by made_all o + 1 < work_on made_all d + 1) (sym behind) (let z = less in omega (arith, z)))
    go false = omega arith

write_less : (items : List Item) (l : LoopState) (k s : ℕ) (x : Line) (write : SocketWrite) → IsServing items l → WritesLine l k s x → GivesWithin write (due_at (speaker_by l) (own_by l x) (desk_of l.table x)) →
    work_at k (with_table (wrote l s x write) l) < work_at k l
write_less items l k s x write w a g =
    subst (λ (n : ℕ). work_at k (with_table (wrote l s x write) l) < n) (sym start) (go write g)
  where
    made_all : ℕ
    made_all = made_count l.peer.entries

    found : line_of l.table s ≡ Some x
    found = line_found items l k s x w.told w.steady.idle a.here a.socket

    differ : Differ l.table.lines
    differ = lines_differ items l w.told w.steady.idle

    start : work_at k l ≡ work_by made_all (desk_of l.table x) + 1
    start = ap (work_with made_all l.table) a.here ∙ ap (λ (b : Bool). if b then work_by made_all (desk_of l.table x) + 1 else 0) a.wants

    nothing : (n : ℕ) → n ≡ 0 → n < work_by made_all (desk_of l.table x) + 1
    nothing n z = omega (arith, z)

    none_due : (o : Option Desk) → desk_of l.table x ≡ o → (n : ℕ) → (0 < n) × (n ≤ length (due_at (speaker_by l) (own_by l x) (desk_of l.table x))) →
        work_with made_all (wrote l s x (O.Gave n)) (slice_get (wrote l s x (O.Gave n)).lines k) < work_by made_all (desk_of l.table x) + 1
    none_due None e n h = absurd (let z = ap (λ (y : Option Desk). length (due_at (speaker_by l) (own_by l x) y)) e in let p = h.0 in let q = h.1 in omega (arith, z, p, q))
    none_due (Some d) e n h = work_less l k s n x d differ a found h.0 h.1 e (slice_get (wrote l s x (O.Gave n)).lines k) refl

    go : (r : SocketWrite) → GivesWithin r (due_at (speaker_by l) (own_by l x) (desk_of l.table x)) → work_at k (with_table (wrote l s x r) l) < work_by made_all (desk_of l.table x) + 1
    go (O.Gave n) h = none_due (desk_of l.table x) refl n h
    go O.NotYet h = nothing _ (put_served s made_all blocked l.table k x a.here a.socket (blocked_none made_all x))
    go O.Failed h = nothing _ (put_served s made_all closed l.table k x a.here a.socket (λ u. refl))

pub writes : (items after : List Item) (l m : LoopState) (k s : ℕ) (x : Line) (write : SocketWrite) → IsServing items l → WritesLine l k s x → GivesWithin write (due_at (speaker_by l) (own_by l x) (desk_of l.table x)) →
    after ≡ items ++ write_item s write (due_at (speaker_by l) (own_by l x) (desk_of l.table x)) ∷ [] → m ≡ with_table (wrote_on (speaker_by l) (own_by l x) s write (desk_of l.table x) l.table) l → Writes k s items after l m
writes items after l m k s x write w a g on same = record {
  serves = write_serves items after l m k s x write w a g on same;
  beside = subst (ServedBeside s l) (sym same) (wrote_beside items l k s x write w a);
  less = subst (λ (y : LoopState). work_at k y < work_at k l) (sym same) (write_less items l k s x write w a g);
}
