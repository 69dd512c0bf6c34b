-- Work: bytes that are given on a line leave less to be given on it.
use Rattle.std.proofs.Common.{◌≡◌, ℕ, ◌+◌, ◌-◌, ◌*◌, ◌<◌, ◌≤◌, Bool, true, false, refl, sym, ap, subst, ◌∙◌, List, [], ◌∷◌, ◌++◌, arith, length, length-append, length-drop}
use Rattle.std.specs.Prelude.{Option, Some, None, ◌==◌, drop, find, map, slice_get, unwrap_or, if◌then◌else◌}
use Rattle.std.specs.Int.{w32, to_be_bytes}
use Rattle.std.proofs.lemmas.Bool.{false≢true, eq-eqb}
use Rattle.definitions.specs.Lists.{is_empty}
use Rattle.definitions.specs.declared.frames.TurnFrame.{TurnFrame}
use Rattle.rosters.specs.declared.roster.Link.{Link}
use Rattle.wire_frames.specs.declared.frames.Frame.TheVariants.{Hello, Turn, Want}
use Rattle.wire_frames.specs.Spelling.{spelling, Fits}
use Rattle.wire_frames.proofs.Tests.{Row, hello, commit, reveal, strike, want}
use Rattle.wire_frames.proofs.Spelled.{exact_spelling}
use Rattle.socket_lines.specs.declared.giving.Due.{Due}
use Rattle.socket_lines.specs.declared.giving.Due.TheVariants as U
use Rattle.socket_lines.specs.declared.line.Line.{Line}
use Rattle.socket_lines.specs.declared.seat.Seat.{Seat}
use Rattle.socket_lines.specs.Lines.{or_else, player_of}
use Rattle.socket_lines.specs.Giving.{Desk, Speaker, own_due, want_or_own, named_due, hello_or, due_on, frame_of, frame_due, spelled, due_bytes, marked, ended_with, left_with}
use Rattle.loop_rules.specs.Tables.{Table, seat_of, seat_by, desk_with, desk_of}
use Rattle.loop_rules.specs.After.{gave_on, gave_with}
use Rattle.loop_rules.specs.Told.{DiffersBy, Differ}
use Rattle.loop_rules.proofs.Given.{IsOwnDue, is_own_due}
use Rattle.socket_table.specs.Staying.{hello_count, frames_from, frames_behind, frames_again, work_on}
use Rattle.socket_list.proofs.Pairs.{map_at, found_key, found_has}
use Rattle.socket_table.proofs.Giving.{gave_keeps}

-- ---- no frame is long

row_short : (k l : ℕ) → Row k l → l ≤ 53
row_short k l (hello a b) = omega (arith, b)
row_short k l (commit a b) = omega (arith, b)
row_short k l (reveal a b) = omega (arith, b)
row_short k l (strike a b) = omega (arith, b)
row_short k l (want a b) = omega (arith, b)

turn_short : (f : TurnFrame) → Fits (Turn f) → length (spelling (Turn f)) ≤ 64
turn_short f h =
    let exact = exact_spelling (Turn f) h in
    let long = exact.long in
    let few = row_short _ _ exact.row in
    omega (arith, long, few)

hello_short : (id : List ℕ) (p : ℕ) (pass : List ℕ) (next : ℕ) → length id ≡ 32 → length pass ≡ 16 → length (spelling (Hello id p pass next)) ≤ 64
unfolding spelling
hello_short id p pass next a b =
    let all = length-append id (p ∷ (pass ++ to_be_bytes w32 next)) in
    let tail = length-append pass (to_be_bytes w32 next) in
    omega (arith, all, tail, a, b)

want_short : (place : ℕ) → length (spelling (Want place)) ≤ 64
unfolding spelling
want_short place = omega arith

due_short : (k : Speaker) (shows : List ℕ) (own : Option TurnFrame) (due : Due) → IsOwnDue own due → length k.id ≡ 32 → length shows ≡ 16 → ((f : TurnFrame) → own ≡ Some f → Fits (Turn f)) →
    length (spelled (frame_of k shows due)) ≤ 64
due_short k shows own U.Nothing w a b c = omega arith
due_short k shows own (U.Hello next) w a b c = hello_short k.id k.me shows next a b
due_short k shows own (U.Want place) w a b c = want_short place
due_short k shows own (U.Own f) w a b c = turn_short f (c f w)

-- the frame that is to be begun has no more than 64 bytes, where the id and the pass have as many as they are to have and the own frame fits
pub due_fits : (k : Speaker) (own : Option TurnFrame) (d : Desk) → length k.id ≡ 32 → length d.seat.link.shows ≡ 16 → ((f : TurnFrame) → own ≡ Some f → Fits (Turn f)) →
    length (spelled (frame_due k own d)) ≤ 64
due_fits k own d a b c = due_short k d.seat.link.shows own (due_on own d) (is_own_due own d) a b c

-- or where the bytes that go out next are that few
pub due_few : (k : Speaker) (own : Option TurnFrame) (d : Desk) → length (due_bytes k own d) ≤ 64 → d.line.unsent ≡ [] → length (spelled (frame_due k own d)) ≤ 64
due_few k own d few e = subst (λ (xs : List ℕ). length (if is_empty xs then spelled (frame_due k own d) else xs) ≤ 64) e few

-- ---- what is due is there

abbrev IsThere : (own : Option TurnFrame) → Desk → Due → Type 0
IsThere own d U.Nothing = Unit {0}
IsThere own d (U.Hello next) = hello_count d.line.hello ≡ 1
IsThere own d (U.Want place) = 0 < length d.seat.asks.due
IsThere own d (U.Own f) = own ≡ Some f

own_there : (d : Desk) (own : Option TurnFrame) → IsThere own d (own_due own)
own_there d None = tt
own_there d (Some f) = refl

some_first : (xs : List ℕ) (x : ℕ) → slice_get xs 0 ≡ Some x → 0 < length xs
some_first [] x e = absurd (cc)
some_first (y ∷ ys) x e = omega arith

want_there : (own : Option TurnFrame) (d : Desk) (o : Option ℕ) → slice_get d.seat.asks.due 0 ≡ o → IsThere own d (want_or_own o own)
want_there own d None e = own_there d own
want_there own d (Some place) e = some_first d.seat.asks.due place e

named_there : (own : Option TurnFrame) (d : Desk) (name : Option ℕ) (due : Due) → IsThere own d due → IsThere own d (named_due name due)
named_there own d None due w = tt
named_there own d (Some q) due w = w

hello_there : (own : Option TurnFrame) (d : Desk) (o : Option ℕ) (due : Due) → d.line.hello ≡ o → IsThere own d due → IsThere own d (hello_or o due)
hello_there own d None due e w = w
hello_there own d (Some next) due e w = ap hello_count e

due_there : (own : Option TurnFrame) (d : Desk) → IsThere own d (due_on own d)
due_there own d =
    let asked = slice_get d.seat.asks.due 0 in
    hello_there own d d.line.hello (named_due d.line.name (want_or_own asked own)) refl (named_there own d d.line.name (want_or_own asked own) (want_there own d asked refl))

-- ---- the work after a write

-- what a frame's end makes of what is begun
work_left : (made : ℕ) (left : List ℕ) (d : Desk) →
    work_on made (left_with left d) ≡ length left + 64 * (hello_count d.line.hello + length d.seat.asks.due + frames_behind made d.line.sending d.line.cursor d.line.jump)
work_left made [] d = go d.line.sending refl
  where
    e : Desk
    e = record d { line = record d.line { unsent = [] } }

    go : (o : Option ℕ) → d.line.sending ≡ o →
        work_on made (ended_with o e) ≡ 0 + 64 * (hello_count d.line.hello + length d.seat.asks.due + frames_behind made d.line.sending d.line.cursor d.line.jump)
    go None w = (let again = ap (λ (o : Option ℕ). frames_again made o d.line.cursor d.line.jump) w in omega (arith, again))
    go (Some place) w = (let behind = ap (λ (o : Option ℕ). frames_behind made o d.line.cursor d.line.jump) w in omega (arith, behind))
work_left made (x ∷ xs) d = omega arith

-- where nothing is left of a frame
work_before : (made : ℕ) (d : Desk) → d.line.unsent ≡ [] →
    work_on made d ≡ 64 * (hello_count d.line.hello + length d.seat.asks.due + (frames_behind made d.line.sending d.line.cursor d.line.jump + frames_again made d.line.sending d.line.cursor d.line.jump))
work_before made d e =
    let long = ap (λ (xs : List ℕ). length xs) e in
    let again = ap (λ (xs : List ℕ). if is_empty xs then frames_again made d.line.sending d.line.cursor d.line.jump else 0) e in
    omega (arith, long, again)

from_less : (made cursor : ℕ) (jump : Option ℕ) → cursor < made → made - unwrap_or jump (cursor + 1) < frames_from made cursor jump
from_less made cursor None lt = omega (arith, lt)
from_less made cursor (Some place) lt = omega (arith, lt)

own_less : (made : ℕ) (sending : Option ℕ) (cursor : ℕ) (jump : Option ℕ) → cursor < made →
    made - unwrap_or jump (cursor + 1) < frames_behind made sending cursor jump + frames_again made sending cursor jump
own_less made None cursor jump lt = let less = from_less made cursor jump lt in omega (arith, less)
own_less made (Some place) cursor jump lt = let less = from_less made cursor jump lt in omega (arith, less)

begun_less : (made : ℕ) (k : Speaker) (own : Option TurnFrame) (count : ℕ) (d : Desk) (due : Due) → IsThere own d due → ((f : TurnFrame) → own ≡ Some f → d.line.cursor < made) → d.line.unsent ≡ [] →
    length (spelled (frame_of k d.seat.link.shows due)) ≤ 64 → 0 < count → count ≤ length (spelled (frame_of k d.seat.link.shows due)) →
    work_on made (left_with (drop count (spelled (frame_of k d.seat.link.shows due))) (marked due d)) < work_on made d
begun_less made k own count d U.Nothing w c e most some few = absurd (omega (arith, some, few))
begun_less made k own count d (U.Hello next) w c e most some few =
    let bytes = spelled (frame_of k d.seat.link.shows (U.Hello next)) in
    let behind = work_left made (drop count bytes) (marked (U.Hello next) d) in
    let before = work_before made d e in
    let left = length-drop count bytes in
    omega (arith, behind, before, left, w, most, some, few)
begun_less made k own count d (U.Want place) w c e most some few =
    let bytes = spelled (frame_of k d.seat.link.shows (U.Want place)) in
    let behind = work_left made (drop count bytes) (marked (U.Want place) d) in
    let before = work_before made d e in
    let left = length-drop count bytes in
    let one = length-drop 1 d.seat.asks.due in
    omega (arith, behind, before, left, one, w, most, some, few)
begun_less made k own count d (U.Own f) w c e most some few =
    let bytes = spelled (frame_of k d.seat.link.shows (U.Own f)) in
    let behind = work_left made (drop count bytes) (marked (U.Own f) d) in
    let before = work_before made d e in
    let left = length-drop count bytes in
    let less = own_less made d.line.sending d.line.cursor d.line.jump (c f w) in
    omega (arith, behind, before, left, less, most, some, few)

empty_is : (xs : List ℕ) → is_empty xs ≡ true → xs ≡ []
empty_is [] e = refl
empty_is (x ∷ xs) e = absurd (false≢true e)

pub gave_less : (made : ℕ) (k : Speaker) (own : Option TurnFrame) (count : ℕ) (d : Desk) → ((f : TurnFrame) → own ≡ Some f → d.line.cursor < made) → (d.line.unsent ≡ [] → length (spelled (frame_due k own d)) ≤ 64) →
    0 < count → count ≤ length (due_bytes k own d) → work_on made (gave_on k own count d) < work_on made d
gave_less made k own count d c most some few = go (is_empty d.line.unsent) refl few
  where
    begins : List ℕ
    begins = spelled (frame_due k own d)

    go : (b : Bool) → is_empty d.line.unsent ≡ b → count ≤ length (if b then begins else d.line.unsent) →
        work_on made (left_with (drop count (if b then begins else d.line.unsent)) (if b then marked (due_on own d) d else d)) < work_on made d
    go true e n =
        let none = empty_is d.line.unsent e in
        begun_less made k own count d (due_on own d) (due_there own d) c none (most none) some n
    go false e n =
        let behind = work_left made (drop count d.line.unsent) d in
        let left = length-drop count d.line.unsent in
        let none = ap (λ (b : Bool). if b then frames_again made d.line.sending d.line.cursor d.line.jump else 0) e in
        omega (arith, behind, left, none, some, n)

-- ---- the desk after a write

desk_parts : (l : Line) (o : Option Seat) (d : Desk) → desk_with l o ≡ Some d → (d.line ≡ l) × (o ≡ Some d.seat)
desk_parts l None d e = absurd (cc)
desk_parts l (Some c) d e =
    let same : record { line = l; seat = c } ≡ d = cc in
    (ap (λ (x : Desk). x.line) (sym same), ap (λ (x : Desk). Some x.seat) same)

pub gave_desk : (k : Speaker) (own : Option TurnFrame) (count : ℕ) (t : Table) (i : ℕ) (l m : Line) (d : Desk) → Differ t.lines → DiffersBy (λ c. c.link.player) t.seats → slice_get t.lines i ≡ Some l →
    desk_of t l ≡ Some d → slice_get (gave_with k own count t (Some d)).lines i ≡ Some m → desk_of (gave_with k own count t (Some d)) m ≡ Some (gave_on k own count d)
gave_desk k own count t i l m d differ players at desk behind = go (player_of l) refl parts.1
  where
    e : Desk
    e = gave_on k own count d

    u : Table
    u = gave_with k own count t (Some d)

    parts : (d.line ≡ l) × (seat_by t (player_of l) ≡ Some d.seat)
    parts = desk_parts l (seat_by t (player_of l)) d desk

    socket : l.socket ≡ e.line.socket
    socket = sym ((gave_keeps k own count d).line.socket ∙ ap (λ (x : Line). x.socket) parts.0)

    line : m ≡ e.line
    line =
        let there = map_at (λ x. if x.socket == e.line.socket then e.line else x) t.lines i l at ∙ ap (λ (b : Bool). Some (if b then e.line else l)) (eq-eqb l.socket e.line.socket socket) in
        let same : Some m ≡ Some e.line = sym behind ∙ there in
        (let r : m ≡ e.line = cc in r)

    player : player_of e.line ≡ player_of l
    player =
        ap (λ (o : Option ℕ). or_else o e.line.dialled) ((gave_keeps k own count d).line.name) ∙ ap (λ (o : Option ℕ). or_else d.line.name o) ((gave_keeps k own count d).line.dialled)
        ∙ ap player_of parts.0

    go : (p : Option ℕ) → player_of l ≡ p → seat_by t p ≡ Some d.seat → desk_of u m ≡ Some e
    go None w f = absurd (cc)
    go (Some q) w f =
        let number : e.seat.link.player ≡ q = ap (λ (x : Link). x.player) (gave_keeps k own count d).seat.link ∙ found_has (λ c. c.link.player) q t.seats d.seat f in
        let seat : seat_of u q ≡ Some e.seat
        = subst (λ (n : ℕ). find (λ c. c.link.player == q) (map (λ c. if c.link.player == n then e.seat else c) t.seats) ≡ Some e.seat) (sym number)
        (found_key (λ c. c.link.player) q (λ c. e.seat) (λ c x. number) t.seats d.seat f) in
        ap (λ (p : Option ℕ). desk_with m (seat_by u p)) (ap player_of line ∙ player ∙ w) ∙ ap (desk_with m) seat ∙ ap (λ (x : Line). desk_with x (Some e.seat)) line
