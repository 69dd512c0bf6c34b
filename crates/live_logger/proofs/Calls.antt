-- Calls: the calls of the station, as the logger's parts show them.
use Rattle.std.proofs.Common.{◌≡◌, ℕ, ◌<◌, ◌≤◌, Bool, true, false, sym, ap, subst, ◌∙◌, List, [], ◌∷◌, ◌++◌, arith, length, min, take}
use Rattle.std.specs.Prelude.{Option, Some, Result, Ok, Err, OnOk, OnErr, slice_get}
use Rattle.std.proofs.Math.Seq.{take-append_seam}
use Rattle.std.proofs.lemmas.List.{length-take-le}
use Rattle.socket_station.specs.declared.answers.Standing.TheVariants.{Open}
use Rattle.socket_station.specs.declared.answers.SocketRead.{SocketRead}
use Rattle.socket_station.specs.declared.answers.SocketWrite.{SocketWrite}
use Rattle.socket_station.specs.Items.{Item, Shut, read_item, write_item}
use Rattle.socket_station.specs.Standings.{standing_in}
use Rattle.socket_station.specs.Withins.{GivesWithin, TakesWithin}
use Rattle.socket_lines.specs.declared.line.Line.{Line}
use Rattle.socket_lines.specs.Lines.{closed}
use Rattle.loop_rules.specs.Hearing.{ousted}
use Rattle.loop_rules.proofs.Alike.{Alike, Same, alike_at, alike_map, ousted_same}
use Rattle.socket_list.proofs.Counting.{length_alike}
use Rattle.frame_index.proofs.Growing.{on_ok}
use Rattle.socket_list.specs.Sockets.{Sockets, IsAt, at_line, with_name_free}
use Rattle.watch_rules.specs.Views.{View, start}
use Rattle.watch_rules.specs.Hearing.{room_by, room_on}
use Rattle.watch_rules.specs.After.{on_line}
use Rattle.watch_rules.specs.Licence.{asks_shut}
use Rattle.watch_rules.specs.Rules.{wants_read, wants_write}
use Rattle.watch_rules.specs.Histories.{AreTold}
use Rattle.live_logger.specs.declared.watch.TheConstants.{MOST_TAKEN}
use Rattle.live_logger.specs.States.{WatchState, IsWatching, with_view}
use Rattle.live_logger.specs.Reading.{Reads, WantsAt, WantsNone, read_by}
use Rattle.live_logger.specs.Serving.{ShutsAt, Writes, WritesAt, WritesNone}
use Rattle.live_logger.proofs.Places.{at_alike, at_lt}
use Rattle.live_logger.proofs.Going.{stands_open}
use Rattle.live_logger.proofs.ReadOnce.{read_state, read_told, reads_open, reads_room}
use Rattle.live_logger.proofs.Serving.{asks_open, shut_not, shut_so, write_so, writes_open, writes_some, wrote_line}

pub on_err : {T E : Type 0} {P : Type 0} (r : Result T E) → P → OnErr r P
on_err (Ok x) p = tt
on_err (Err x) p = p

-- what is so of the logger, as its parts show it
abbrev pub AtPart : WatchState → (k : ℕ) → (Line → Type 0) → Type 0
AtPart i k P = (l : Line) → slice_get i.view.sockets.lines k ≡ Some l → P l

-- ---- names

pub at_here : (t v : Sockets) (k s : ℕ) → t ≡ v → IsAt v k s → IsAt t k s
at_here t v k s e at = subst (λ (x : Sockets). IsAt x k s) (sym e) at

pub name_at : (t u : Sockets) (k s q : ℕ) → IsAt t k s → u ≡ with_name_free q t → IsAt u k s
name_at t u k s q at e = subst (λ (x : Sockets). IsAt x k s) (sym e) (at_alike t (with_name_free q t) k s (alike_map (ousted q) (ousted_same q) t.lines) at)

pub line_at : (t u : Sockets) (k s : ℕ) (f : Line → Line) → ((l : Line) → Same l (f l)) → IsAt t k s → u ≡ at_line s f t → IsAt u k s
line_at t u k s f same at e = subst (λ (x : Sockets). IsAt x k s) (sym e) (at_alike t (at_line s f t) k s (alike_at s f same t.lines) at)

-- ---- reads

pub room_few : (v : View) (l : Line) (o : Option ℕ) (n : ℕ) → l.name ≡ o → n ≤ room_on v l → n ≤ room_by v l o
room_few v l o n e few = subst (λ (x : Option ℕ). n ≤ room_by v l x) e few

-- the front of what a read filled
whole : (most : ℕ) (buf post old : List ℕ) → length buf ≡ length (take most old) → most ≤ length old → take most (buf ++ post) ≡ buf
whole most buf post old long few = ap (λ (n : ℕ). take n (buf ++ post)) (sym (long ∙ length-take-le most old few)) ∙ take-append_seam buf post

pub read_some : (i w : WatchState) (k s room most : ℕ) (buf : List ℕ) → i ≡ w → IsAt w.view.sockets k s → WantsAt w.view k → AtPart i k (λ l. room ≡ room_on i.view l) → most ≡ min MOST_TAKEN room → length buf ≡ MOST_TAKEN → 0 < length (take most buf)
read_some i w k s room most buf e at wants is few all =
    let here : room ≡ room_on w.view at.0 = (subst (λ (x : WatchState). AtPart x k (λ l. room ≡ room_on x.view l)) e is) at.0 at.1 in
    let some = reads_room w.view at.0 (wants at.0 at.1) in
    let long = length-take-le most buf (omega (arith, few, all)) in
    omega (arith, here, some, long, few)

pub read_open : (items : List Item) (w : WatchState) (k s : ℕ) → IsAt w.view.sockets k s → IsWatching items w → WantsAt w.view k → standing_in items s ≡ Open
read_open items w k s at ready wants = stands_open items w.view k s at ready.told (reads_open w.view at.0 (wants at.0 at.1))

-- the bytes that a read may take have room
pub read_few : (i w : WatchState) (k room most : ℕ) (read : SocketRead) (buf post old : List ℕ) → AtPart i k (λ l. room ≡ room_on i.view l) → most ≡ min MOST_TAKEN room → length buf ≡ length (take most old) → length old ≡ MOST_TAKEN →
    AtPart i k (λ l. length (take most (buf ++ post)) ≤ room_on i.view l)
read_few i w k room most read buf post old is few long all l g =
    let same = ap (λ (x : List ℕ). length x) (whole most buf post old long (omega (arith, few, all))) in
    let size = length-take-le most old (omega (arith, few, all)) in
    let here = is l g in
    omega (arith, same, size, long, few, here)

pub read_one : {T E : Type 0} (items after : List Item) (i w m : WatchState) (k s room most : ℕ) (read : SocketRead) (buf post old : List ℕ) (r : Result T E) → i ≡ w → IsWatching items w → IsAt w.view.sockets k s → WantsAt w.view k →
    AtPart i k (λ l. room ≡ room_on i.view l) → most ≡ min MOST_TAKEN room → length buf ≡ length (take most old) → length old ≡ MOST_TAKEN → after ≡ items ++ read_item s read buf ∷ [] → TakesWithin read buf →
    AtPart i k (λ l. OnOk r (m ≡ with_view (read_by i.view l s read (take most (buf ++ post))) i)) → OnOk r (Reads k items after w m)
read_one items after i w m k s room most read buf post old r e ready at wants is few long all on within put =
    let same = whole most buf post old long (omega (arith, few, all)) in
    let size = length-take-le most old (omega (arith, few, all)) in
    let here : room ≡ room_on w.view at.0 = (subst (λ (x : WatchState). AtPart x k (λ l. room ≡ room_on x.view l)) e is) at.0 at.1 in
    let done : OnOk r (m ≡ with_view (read_by w.view at.0 s read (take most (buf ++ post))) w) = (subst (λ (x : WatchState). AtPart x k (λ l. OnOk r (m ≡ with_view (read_by x.view l s read (take most (buf ++ post))) x))) e put) at.0 at.1 in
    on_ok r (λ (state : m ≡ with_view (read_by w.view at.0 s read (take most (buf ++ post))) w). read_state items after w m k s at read buf ready (wants at.0 at.1) within (omega (arith, here, size, long, few)) on (state ∙ ap (λ (b : List ℕ). with_view (read_by w.view at.0 s read b) w) same)) done

pub read_history : (items after : List Item) (i w : WatchState) (k s room most : ℕ) (read : SocketRead) (buf old : List ℕ) → i ≡ w → IsWatching items w → IsAt w.view.sockets k s → WantsAt w.view k →
    AtPart i k (λ l. room ≡ room_on i.view l) → most ≡ min MOST_TAKEN room → length buf ≡ length (take most old) → length old ≡ MOST_TAKEN → after ≡ items ++ read_item s read buf ∷ [] → TakesWithin read buf → AreTold (start w.view.setting) [] after
read_history items after i w k s room most read buf old e ready at wants is few long all on within =
    let size = length-take-le most old (omega (arith, few, all)) in
    let here : room ≡ room_on w.view at.0 = (subst (λ (x : WatchState). AtPart x k (λ l. room ≡ room_on x.view l)) e is) at.0 at.1 in
    read_told items after w k s at read buf ready (wants at.0 at.1) within (omega (arith, here, size, long, few)) on

-- the answer whether the socket at the place is to be read, and so on
pub wants_all : (w : WatchState) (k : ℕ) (b : Bool) → AtPart w k (λ l. b ≡ wants_read w.view l) → b ≡ true → WantsAt w.view k
wants_all w k b is e l g = sym (is l g) ∙ e

pub wants_none : (w : WatchState) (k : ℕ) (b : Bool) → AtPart w k (λ l. b ≡ wants_read w.view l) → b ≡ false → WantsNone w.view k
wants_none w k b is e l g = sym (is l g) ∙ e

pub writes_all : (w : WatchState) (k : ℕ) (b : Bool) → AtPart w k (λ l. b ≡ wants_write w.view l) → b ≡ true → WritesAt w.view k
writes_all w k b is e l g = sym (is l g) ∙ e

pub writes_none : (w : WatchState) (k : ℕ) (b : Bool) → AtPart w k (λ l. b ≡ wants_write w.view l) → b ≡ false → WritesNone w.view k
writes_none w k b is e l g = sym (is l g) ∙ e

-- ---- shutting

asks_here : (i w : WatchState) (k : ℕ) (b : Bool) → i ≡ w → AtPart i k (λ l. b ≡ asks_shut i.view l) → AtPart w k (λ l. b ≡ asks_shut w.view l)
asks_here i w k b e is = subst (λ (x : WatchState). AtPart x k (λ l. b ≡ asks_shut x.view l)) e is

pub shut_open : (items : List Item) (i w : WatchState) (k s : ℕ) (b : Bool) → i ≡ w → IsAt w.view.sockets k s → IsWatching items w → AtPart i k (λ l. b ≡ asks_shut i.view l) → b ≡ true → standing_in items s ≡ Open
shut_open items i w k s b e at ready is so = stands_open items w.view k s at ready.told (asks_open w.view at.0 (sym ((asks_here i w k b e is) at.0 at.1) ∙ so))

pub shut_one : (items after : List Item) (i w m : WatchState) (k s : ℕ) (b : Bool) → i ≡ w → IsAt w.view.sockets k s → IsWatching items w → AtPart i k (λ l. b ≡ asks_shut i.view l) → b ≡ true → after ≡ items ++ Shut s ∷ [] → m ≡ with_view (on_line s closed i.view) i → ShutsAt k items after w m
shut_one items after i w m k s b e at ready is so on state =
    shut_so items after w m k s at ready (sym ((asks_here i w k b e is) at.0 at.1) ∙ so) on (state ∙ ap (λ (x : WatchState). with_view (on_line s closed x.view) x) e)

pub shut_none : (items : List Item) (i w : WatchState) (k : ℕ) (b : Bool) → i ≡ w → IsWatching items w → AtPart i k (λ l. b ≡ asks_shut i.view l) → b ≡ false → ShutsAt k items items w w
shut_none items i w k b e ready is none = shut_not items w k ready (λ l g. sym ((asks_here i w k b e is) l g) ∙ none)

-- ---- writing

due_here : (i w : WatchState) (k s : ℕ) (bytes : List ℕ) → i ≡ w → (at : IsAt w.view.sockets k s) → AtPart i k (λ l. bytes ≡ l.unsent) → bytes ≡ (at.0).unsent
due_here i w k s bytes e at is = (subst (λ (x : WatchState). AtPart x k (λ l. bytes ≡ l.unsent)) e is) at.0 at.1

pub write_some : (i w : WatchState) (k s : ℕ) (bytes : List ℕ) → i ≡ w → IsAt w.view.sockets k s → WritesAt w.view k → AtPart i k (λ l. bytes ≡ l.unsent) → 0 < length bytes
write_some i w k s bytes e at wants is = subst (λ (b : List ℕ). 0 < length b) (sym (due_here i w k s bytes e at is)) (writes_some w.view at.0 (wants at.0 at.1))

pub write_open : (items : List Item) (w : WatchState) (k s : ℕ) → IsAt w.view.sockets k s → IsWatching items w → WritesAt w.view k → standing_in items s ≡ Open
write_open items w k s at ready wants = stands_open items w.view k s at ready.told (writes_open w.view at.0 (wants at.0 at.1))

pub write_one : (items after : List Item) (i w m : WatchState) (k s : ℕ) (r : SocketWrite) (bytes : List ℕ) → i ≡ w → IsAt w.view.sockets k s → IsWatching items w → WritesAt w.view k → AtPart i k (λ l. bytes ≡ l.unsent) → GivesWithin r bytes →
    after ≡ items ++ write_item s r bytes ∷ [] → m ≡ with_view (on_line s (wrote_line r) i.view) i → Writes k items after w m
write_one items after i w m k s r bytes e at ready wants is within on state =
    write_so items after w m k s at r bytes ready (wants at.0 at.1) (due_here i w k s bytes e at is) within on (state ∙ ap (λ (x : WatchState). with_view (on_line s (wrote_line r) x.view) x) e)

-- ---- place by place

pub place_lt : (w m : WatchState) (place end : ℕ) → Alike w.view.sockets.lines m.view.sockets.lines → place < end → end ≡ length w.view.sockets.lines → place < length m.view.sockets.lines
place_lt w m place end a lt e = (let n = length_alike w.view.sockets.lines m.view.sockets.lines a in omega (arith, n, lt, e))

-- the same, where the logger's parts are seen at the loop and before it
pub place_in : (j w i m : WatchState) (place end : ℕ) → j ≡ w → i ≡ m → Alike w.view.sockets.lines m.view.sockets.lines → place < end → end ≡ length j.view.sockets.lines → place < length i.view.sockets.lines
place_in j w i m place end e f a lt is =
    subst (λ (x : WatchState). place < length x.view.sockets.lines) (sym f) (place_lt w m place end a lt (is ∙ ap (λ (x : WatchState). length x.view.sockets.lines) e))

pub place_end : (j w m : WatchState) (place end : ℕ) → j ≡ w → Alike w.view.sockets.lines m.view.sockets.lines → end ≤ place → end ≡ length j.view.sockets.lines → length m.view.sockets.lines ≤ place
place_end j w m place end e a le is =
    let n = length_alike w.view.sockets.lines m.view.sockets.lines a in
    let s = ap (λ (x : WatchState). length x.view.sockets.lines) e in
    omega (arith, n, s, le, is)

pub at_in : (i m : WatchState) (k s : ℕ) → i ≡ m → IsAt m.view.sockets k s → k < length i.view.sockets.lines
at_in i m k s e at = subst (λ (x : WatchState). k < length x.view.sockets.lines) (sym e) (at_lt m.view.sockets k s at)
