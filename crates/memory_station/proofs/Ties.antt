-- How the sockets in memory stay tied to the history.
use Rattle.std.specs.Prelude.{IsNone, IfNone, IfSome, ◌↔◌}
use Rattle.std.proofs.Common.{◌^◌, min, Bool, true, false, ◌≡◌, ℕ, ◌+◌, ◌-◌, ◌≤◌, ◌<◌, ◌==◌, List, [], ◌∷◌, ◌++◌, Option, Some, None, refl, sym, ap, subst, ◌∙◌, arith, if◌then◌else◌, map, length}
use Rattle.std.proofs.lemmas.Grind.{common_steps}
use Rattle.std.proofs.lemmas.Bool.Decides.{nat_tests}
use Rattle.std.proofs.Math.Nat.{lt_of_not-le}
use Rattle.socket_station.specs.declared.answers.Addr.{Addr}
use Rattle.socket_station.specs.declared.answers.Did.{Did}
use Rattle.socket_station.specs.declared.answers.Did.TheVariants.{Done, Failed as DidFailed}
use Rattle.socket_station.specs.declared.answers.Dial.{Dial}
use Rattle.socket_station.specs.declared.answers.Dial.TheVariants.{Socket, Failed as DialFailed}
use Rattle.socket_station.specs.declared.answers.SocketRead.{SocketRead}
use Rattle.socket_station.specs.declared.answers.SocketRead.TheVariants as R
use Rattle.socket_station.specs.declared.answers.SocketWrite.{SocketWrite}
use Rattle.socket_station.specs.declared.answers.SocketWrite.TheVariants as W
use Rattle.socket_station.specs.declared.answers.Ready.{Ready}
use Rattle.socket_station.specs.declared.answers.Ready.TheVariants.{Opened, Socket as Seems}
use Rattle.socket_station.specs.declared.answers.Standing.{Standing}
use Rattle.socket_station.specs.declared.answers.Standing.TheVariants.{Open}
use Rattle.socket_station.specs.Items.{Item, listen_item, log_item, dial_item, poll_item, read_item, write_item, keep_item, sync_item, Shut}
use Rattle.socket_station.specs.Standings.{standing_in, standing_after, opens, AreNew, OpensNew}
use Rattle.socket_station.proofs.Histories.{standing-more}
use Rattle.memory_station.specs.Answers.{did_by, dial_answer, is_dialled, IsFreshDial, at_socket, read_table, write_table, dial_table, gave_mark}
use Rattle.history_book.specs.Books.{with_item}
use Rattle.history_book.specs.HeldBooks.{HeldBook}
use Rattle.memory_station.specs.HeldRows.{HeldTable, HeldRow, row_in, closed, marked, taken, refused, polled_table, brought_on, with_piece, brought_row, uncounted, pieces_behind}
use Rattle.memory_station.specs.HeldStations.{goes_on, begun, fails_next}
use Rattle.memory_station.specs.Plans.{HeldPlan}
use Rattle.history_book.specs.Rooms.{fits, spent_by, cut_at}
use Rattle.history_book.specs.declared.room.Room.{Room}
use Rattle.memory_station.specs.Stations.{IsTied}
use Rattle.history_book.proofs.Spendings.{spent}
use Rattle.memory_station.proofs.Closings.{KeepsStanding, standing-kept, standing-closed, standing-brought, keeps-pieces, keeps-refused, keeps-gave}

cut-items : (k : ℕ) (room : Room) → (cut_at k room).items ≡ room.items
cut-items k room = grind (arith, common_steps)

-- a call that begins leaves the history and the number of items that have room
pub begun-history : (plan : HeldPlan) (said need : ℕ) (book : HeldBook) → (begun plan said need book).history ≡ book.history
begun-history plan said need book = by-test (fits book.room (if fails_next plan book then said else need))
  where
    by-test : (b : Bool) → (if b then book else record { history = book.history; room = cut_at (min (length book.history) (2 ^ 64 - 1)) book.room }).history ≡ book.history
    by-test true = refl
    by-test false = refl

pub begun-items : (plan : HeldPlan) (said need : ℕ) (book : HeldBook) → (begun plan said need book).room.items ≡ book.room.items
begun-items plan said need book = by-test (fits book.room (if fails_next plan book then said else need))
  where
    by-test : (b : Bool) → (if b then book else record { history = book.history; room = cut_at (min (length book.history) (2 ^ 64 - 1)) book.room }).room.items ≡ book.room.items
    by-test true = refl
    by-test false = cut-items (min (length book.history) (2 ^ 64 - 1)) book.room

pub spent-items : (n : ℕ) (room : Room) → (spent_by n room).items ≤ room.items
spent-items n room = (spent n room (spent_by n room) refl).items

-- one that goes on takes room for an item
pub goes-items : (plan : HeldPlan) (said need n : ℕ) (book : HeldBook) → goes_on plan book need ≡ true → (spent_by n (begun plan said need book).room).items + 1 ≤ book.room.items
goes-items plan said need n book e = grind (arith, common_steps, nat_tests)

-- the history with one more item is tied to a table whose sockets it moves
pub tied-more : (book new : HeldBook) (before after : HeldTable) (item : Item) → IsTied book before → new.history ≡ book.history ++ item ∷ []
    → ((n : ℕ) → (row_in after.rows n).standing ≡ standing_after n (row_in before.rows n).standing item)
    → new.room.items + 512 ≤ after.row_room + after.brought → after.brought ≤ 512 → IsTied new after
tied-more book new before after item t h m r b =
    record {
      standings = λ n. ap (λ (items : List Item). standing_in items n) h ∙ (standing-more book.history item n ∙ (ap (λ (s : Standing). standing_after n s item) (t.standings n) ∙ sym (m n)));
      rows = r;
      brought = b;
    }

-- an item that moves no socket, and takes no more room than there is
pub tied-quiet : (book new : HeldBook) (table : HeldTable) (item : Item) (plan : HeldPlan) (said need n : ℕ) → IsTied book table
    → new ≡ with_item item n (begun plan said need book) → ((k : ℕ) (s : Standing) → standing_after k s item ≡ s) → IsTied new table
tied-quiet book new table item plan said need n t e q =
    let h : new.history ≡ book.history ++ item ∷ [] = ap (λ (b : HeldBook). b.history) e ∙ ap (λ (items : List Item). items ++ item ∷ []) (begun-history plan said need book) in
    let r : new.room.items ≡ (spent_by n (begun plan said need book).room).items = ap (λ (b : HeldBook). b.room.items) e in
    let s = spent-items n (begun plan said need book).room in
    let i = begun-items plan said need book in
    let w = t.rows in
    tied-more book new table table item t h (λ k. sym (q k (row_in table.rows k).standing)) (omega (arith, r, s, i, w)) t.brought

pub quiet-listen : (did : Did) (addr : Addr) (k : ℕ) (s : Standing) → standing_after k s (listen_item did addr) ≡ s
quiet-listen Done addr k s = refl
quiet-listen DidFailed addr k s = refl

pub quiet-log : (did : Did) (name : List ℕ) (k : ℕ) (s : Standing) → standing_after k s (log_item did name) ≡ s
quiet-log Done name k s = refl
quiet-log DidFailed name k s = refl

pub quiet-keep : (did : Did) (bytes : List ℕ) (k : ℕ) (s : Standing) → standing_after k s (keep_item did bytes) ≡ s
quiet-keep Done bytes k s = refl
quiet-keep DidFailed bytes k s = refl

pub quiet-sync : (did : Did) (k : ℕ) (s : Standing) → standing_after k s (sync_item did) ≡ s
quiet-sync Done k s = refl
quiet-sync DidFailed k s = refl

-- how a dial moves the sockets
pub moves-dial : (dial : Dial) (player : ℕ) (addr : Addr) (n : ℕ) (s : Standing) → (if is_dialled dial n then Open else s) ≡ standing_after n s (dial_item dial player addr)
moves-dial (Socket k) player addr n s = refl
moves-dial DialFailed player addr n s = refl

pub fresh-dial : (dial : Dial) (player : ℕ) (addr : Addr) (book : HeldBook) (table : HeldTable) → IsTied book table → IsFreshDial dial table → OpensNew book.history (dial_item dial player addr)
fresh-dial (Socket s) player addr book table t f = t.standings s ∙ f
fresh-dial DialFailed player addr book table t f = tt

-- the room for sockets goes with the room for items
rooms-dial : (goes : Bool) (plan : HeldPlan) (book : HeldBook) (table : HeldTable) (new : ℕ) → IsTied book table → goes ≡ goes_on plan book 0 → new ≡ (spent_by 0 (begun plan 0 0 book).room).items
    → (new + 512 ≤ (dial_table (dial_answer goes table) table).row_room + (dial_table (dial_answer goes table) table).brought) × ((dial_table (dial_answer goes table) table).brought ≤ 512)
rooms-dial true plan book table new t g e =
    let i = goes-items plan 0 0 0 book (sym g) in
    let w = t.rows in
    let b = t.brought in
    (omega (arith, e, i, w, b), b)
rooms-dial false plan book table new t g e =
    let s = spent-items 0 (begun plan 0 0 book).room in
    let i = begun-items plan 0 0 book in
    let w = t.rows in
    (omega (arith, e, s, i, w), t.brought)

pub tied-dial : (book new : HeldBook) (before after : HeldTable) (plan : HeldPlan) (goes : Bool) (dial : Dial) (player : ℕ) (addr : Addr) → IsTied book before → goes ≡ goes_on plan book 0
    → new ≡ with_item (dial_item dial player addr) 0 (begun plan 0 0 book) → dial ≡ dial_answer goes before → after ≡ dial_table dial before
    → ((n : ℕ) → (row_in after.rows n).standing ≡ (if is_dialled dial n then Open else (row_in before.rows n).standing)) → IsTied new after
tied-dial book new before after plan goes dial player addr t g e a f m =
    let h : new.history ≡ book.history ++ dial_item dial player addr ∷ [] = ap (λ (b : HeldBook). b.history) e ∙ ap (λ (items : List Item). items ++ dial_item dial player addr ∷ []) (begun-history plan 0 0 book) in
    let r : new.room.items ≡ (spent_by 0 (begun plan 0 0 book).room).items = ap (λ (b : HeldBook). b.room.items) e in
    let w = rooms-dial goes plan book before new.room.items t g r in
    let is : after ≡ dial_table (dial_answer goes before) before = f ∙ ap (λ (d : Dial). dial_table d before) a in
    let P : HeldTable → Type 0 = λ v. new.room.items + 512 ≤ v.row_room + v.brought in
    let Q : HeldTable → Type 0 = λ v. v.brought ≤ 512 in
    tied-more book new before after (dial_item dial player addr) t h (λ n. m n ∙ moves-dial dial player addr n (row_in before.rows n).standing) (subst P (sym is) w.0) (subst Q (sym is) w.1)

-- how a poll moves them
pub moves-poll : (goes : Bool) (list some : List Ready) (n : ℕ) (s : Standing) → list ≡ (if goes then some else []) → (if opens list n then Open else s) ≡ standing_after n s (poll_item (did_by goes) list)
moves-poll true list some n s e = refl
moves-poll false list some n s e = ap (λ (l : List Ready). if opens l n then Open else s) e

new-along : (f g : ℕ → Standing) (list : List Ready) → ((n : ℕ) → g n ≡ f n) → AreNew f list → AreNew g list
new-along f g [] e a = tt
new-along f g (Opened s ∷ list) e a = (e s ∙ a.0, a.1, new-along f g list e a.2)
new-along f g (Seems s ∷ list) e a = new-along f g list e a

pub fresh-poll : (did : Did) (list : List Ready) (book : HeldBook) (table : HeldTable) → IsTied book table → AreNew (λ n. (row_in table.rows n).standing) list → OpensNew book.history (poll_item did list)
fresh-poll Done list book table t a = new-along (λ n. (row_in table.rows n).standing) (standing_in book.history) list t.standings a
fresh-poll DidFailed list book table t a = tt

-- how a read, a write and a shut move them
pub moves-read : (s : ℕ) (read : SocketRead) (buf : List ℕ) (before after : HeldTable) → (row_in before.rows s).standing ≡ Open → after ≡ read_table s read before
    → (n : ℕ) → (row_in after.rows n).standing ≡ standing_after n (row_in before.rows n).standing (read_item s read buf)
moves-read s (R.Took k) buf before after o e n = ap (λ (t : HeldTable). (row_in t.rows n).standing) e ∙ standing-kept (taken k) s n before.rows (keeps-pieces (pieces_behind k))
moves-read s R.NotYet buf before after o e n = ap (λ (t : HeldTable). (row_in t.rows n).standing) e
moves-read s R.Ended buf before after o e n = ap (λ (t : HeldTable). (row_in t.rows n).standing) e ∙ standing-closed s n before.rows o
moves-read s R.Failed buf before after o e n = ap (λ (t : HeldTable). (row_in t.rows n).standing) e ∙ standing-closed s n before.rows o

pub moves-write : (most : Option ℕ) (s : ℕ) (write : SocketWrite) (bytes : List ℕ) (before after : HeldTable) → (row_in before.rows s).standing ≡ Open → after ≡ write_table most s write before
    → (n : ℕ) → (row_in after.rows n).standing ≡ standing_after n (row_in before.rows n).standing (write_item s write bytes)
moves-write most s (W.Gave k) bytes before after o e n = ap (λ (t : HeldTable). (row_in t.rows n).standing) e ∙ standing-kept (marked (gave_mark most)) s n before.rows (keeps-gave most)
moves-write most s W.NotYet bytes before after o e n = ap (λ (t : HeldTable). (row_in t.rows n).standing) e ∙ standing-kept refused s n before.rows keeps-refused
moves-write most s W.Failed bytes before after o e n = ap (λ (t : HeldTable). (row_in t.rows n).standing) e ∙ standing-closed s n before.rows o

pub moves-shut : (s : ℕ) (before after : HeldTable) → (row_in before.rows s).standing ≡ Open → after ≡ at_socket s closed before
    → (n : ℕ) → (row_in after.rows n).standing ≡ standing_after n (row_in before.rows n).standing (Shut s)
moves-shut s before after o e n = ap (λ (t : HeldTable). (row_in t.rows n).standing) e ∙ standing-closed s n before.rows o

-- what else a read and a write leave
pub rooms-read : (s : ℕ) (read : SocketRead) (table : HeldTable) → ((read_table s read table).row_room ≡ table.row_room) × ((read_table s read table).brought ≡ table.brought)
rooms-read s (R.Took k) table = (refl, refl)
rooms-read s R.NotYet table = (refl, refl)
rooms-read s R.Ended table = (refl, refl)
rooms-read s R.Failed table = (refl, refl)

-- a socket that was open in the history is so in memory
pub open-row : (book : HeldBook) (table : HeldTable) (s : ℕ) → IsTied book table → standing_in book.history s ≡ Open → (row_in table.rows s).standing ≡ Open
open-row book table s t o = sym (t.standings s) ∙ o

-- what a harness brings leaves the sockets as they stand
pub tied-along : (book : HeldBook) (before after : HeldTable) → IsTied book before → ((n : ℕ) → (row_in after.rows n).standing ≡ (row_in before.rows n).standing)
    → after.row_room + after.brought ≡ before.row_room + before.brought → after.brought ≤ 512 → IsTied book after
tied-along book before after t m r b =
    let w = t.rows in
    record { standings = λ n. t.standings n ∙ sym (m n); rows = omega (arith, r, w); brought = b }

pub tied-at : (book : HeldBook) (before after : HeldTable) (s : ℕ) (f : HeldRow → HeldRow) → IsTied book before → KeepsStanding f → after ≡ at_socket s f before → IsTied book after
tied-at book before after s f t k e =
    let P : HeldTable → Type 0 = λ v. IsTied book v in
    subst P (sym e) (tied-along book before (at_socket s f before) t (λ n. standing-kept f s n before.rows k) refl t.brought)

pub tied-bring : (b : Bool) (book : HeldBook) (before after : HeldTable) (s : ℕ) (piece : List ℕ) → IsTied book before → after ≡ (if b then brought_on s piece before else before) → IsTied book after
tied-bring b book before after s piece t e =
    let P : HeldTable → Type 0 = λ v. IsTied book v in
    subst P (sym e) (by-test b)
  where
    by-test : (b : Bool) → IsTied book (if b then brought_on s piece before else before)
    by-test true = tied-along book before (brought_on s piece before) t (λ n. standing-kept (with_piece piece) s n before.rows (keeps-pieces (λ (ps : List (List ℕ)). ps ++ piece ∷ []))) refl t.brought
    by-test false = t

standing-uncounted : (rows : List HeldRow) (n : ℕ) → (row_in (map uncounted rows) n).standing ≡ (row_in rows n).standing
standing-uncounted [] n = refl
standing-uncounted (l ∷ rows) n = by-test (l.number == n) (standing-uncounted rows n)
  where
    by-test : (b : Bool) → (row_in (map uncounted rows) n).standing ≡ (row_in rows n).standing → (if b then uncounted l else row_in (map uncounted rows) n).standing ≡ (if b then l else row_in rows n).standing
    by-test true r = refl
    by-test false r = r

pub tied-uncounted : (book : HeldBook) (before after : HeldTable) → IsTied book before → after ≡ record before { rows = map uncounted before.rows } → IsTied book after
tied-uncounted book before after t e =
    let P : HeldTable → Type 0 = λ v. IsTied book v in
    subst P (sym e) (tied-along book before (record before { rows = map uncounted before.rows }) t (λ n. standing-uncounted before.rows n) refl t.brought)

pub tied-brought : (book : HeldBook) (before after : HeldTable) (s : ℕ) → IsTied book before → before.brought < 512 → 0 < before.row_room → after ≡ brought_row s before → IsTied book after
tied-brought book before after s t b r e =
    let P : HeldTable → Type 0 = λ v. IsTied book v in
    subst P (sym e) (tied-along book before (brought_row s before) t (λ n. standing-brought s n before.rows) (omega (arith, r)) (omega (arith, b)))

-- a call that takes no more room than there is, on sockets of which none comes or goes
pub tied-same : (book new : HeldBook) (before after : HeldTable) (item : Item) (plan : HeldPlan) (said need n : ℕ) → IsTied book before
    → new ≡ with_item item n (begun plan said need book) → ((k : ℕ) → (row_in after.rows k).standing ≡ standing_after k (row_in before.rows k).standing item)
    → after.row_room ≡ before.row_room → after.brought ≡ before.brought → IsTied new after
tied-same book new before after item plan said need n t e m r b =
    let h : new.history ≡ book.history ++ item ∷ [] = ap (λ (k : HeldBook). k.history) e ∙ ap (λ (items : List Item). items ++ item ∷ []) (begun-history plan said need book) in
    let i : new.room.items ≡ (spent_by n (begun plan said need book).room).items = ap (λ (k : HeldBook). k.room.items) e in
    let s = spent-items n (begun plan said need book).room in
    let j = begun-items plan said need book in
    let w = t.rows in
    let v = t.brought in
    tied-more book new before after item t h m (omega (arith, i, s, j, w, r, b)) (omega (arith, b, v))

pub room-polled : (goes : Bool) (list : List Ready) (before after : HeldTable) → after ≡ (if goes then polled_table list before else before) → (after.row_room ≡ before.row_room) × (after.brought ≡ before.brought)
room-polled true list before after e = (ap (λ (t : HeldTable). t.row_room) e, ap (λ (t : HeldTable). t.brought) e)
room-polled false list before after e = (ap (λ (t : HeldTable). t.row_room) e, ap (λ (t : HeldTable). t.brought) e)

pub tied-shut : (book new : HeldBook) (before after : HeldTable) (s : ℕ) → IsTied book before → standing_in book.history s ≡ Open
    → new ≡ record book { history = book.history ++ Shut s ∷ [] } → after ≡ at_socket s closed before → IsTied new after
tied-shut book new before after s t o e f =
    let r : new.room.items ≡ book.room.items = ap (λ (k : HeldBook). k.room.items) e in
    let rr : after.row_room ≡ before.row_room = ap (λ (v : HeldTable). v.row_room) f in
    let b : after.brought ≡ before.brought = ap (λ (v : HeldTable). v.brought) f in
    let w = t.rows in
    let v = t.brought in
    tied-more book new before after (Shut s) t (ap (λ (k : HeldBook). k.history) e) (moves-shut s before after (open-row book before s t o) f) (omega (arith, r, rr, b, w)) (omega (arith, b, v))

pub tied-socket : (book : HeldBook) (before after : HeldTable) (socket : Option ℕ) → IsTied book before → IsNone socket ↔ (512 ≤ before.brought)
    → IfNone socket (after ≡ before) → IfSome socket (λ s. after ≡ brought_row s before) → IsTied book after
tied-socket book before after None t f n s = let P : HeldTable → Type 0 = λ v. IsTied book v in subst P (sym n) t
tied-socket book before after (Some k) t f n s =
    let few : before.brought < 512 = lt_of_not-le (λ h. let x : true ≡ false = f.1 h in absurd (cc)) in
    let w = t.rows in
    tied-brought book before after k t few (omega (arith, w, few)) s
