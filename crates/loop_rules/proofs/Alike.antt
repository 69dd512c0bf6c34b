-- Alike: lines that change keep their sockets, and none of them opens.
use Rattle.std.proofs.Common.{◌≡◌, ℕ, Bool, true, false, refl, sym, ap, subst, ◌∙◌, List, [], ◌∷◌}
use Rattle.std.specs.Prelude.{Option, Some, None, ◌==◌, drop, find, map, length, if◌then◌else◌}
use Rattle.std.specs.List.{fold}
use Rattle.std.proofs.lemmas.Bool.{eqb-true, eq-eqb, false≢true}
use Rattle.plain_lemmas.proofs.Pairs.{Pairs, pairs_same, pairs_then, pairs_map, pairs_each}
use Rattle.definitions.specs.Lists.{EachIs, is_empty}
use Rattle.definitions.specs.declared.frames.TurnFrame.{TurnFrame}
use Rattle.definitions.specs.Logs as L
use Rattle.wire_frames.specs.declared.frames.Frame.{Frame}
use Rattle.wire_frames.specs.declared.frames.Frame.TheVariants.{Hello, Turn, Want}
use Rattle.wire_frames.specs.Streams.{Given, given_of}
use Rattle.socket_lines.specs.declared.giving.Due.{Due}
use Rattle.socket_lines.specs.declared.giving.Due.TheVariants as U
use Rattle.socket_lines.specs.declared.line.Line.{Line}
use Rattle.socket_lines.specs.declared.seat.Seat.{Seat}
use Rattle.socket_lines.specs.Seats.{obeys, may_want}
use Rattle.socket_lines.specs.Lines.{player_of, is_named, named_line, doomed, moved_to, closed, quieted, blocked, woken}
use Rattle.socket_lines.specs.Giving.{Desk, Speaker, due_on, due_bytes, marked, begun, ended_with, left_with}
use Rattle.loop_rules.specs.Tables.{Table, line_of, seat_of, seat_by, in_lines, at_line, at_seat, desk_with}
use Rattle.loop_rules.specs.Hearing.{Hearer, names, ousted, named, with_name_free, heard_first, obeyed, arrived, heard_named, heard_by, heard_on, heard, counted, counted_on, read_on, read_at, heard_all, took_with}
use Rattle.loop_rules.specs.After.{gave_on, gave_with, gave_by, own_at}
use Rattle.loop_rules.specs.Told.{IsNotIn, Differ}

-- the line behind a change is of the same socket, dialled for the same player, not open where it was closed, and wrong where it was
pub record Same (l m : Line) : Type 0 where
  pub socket : m.socket ≡ l.socket
  pub opened : m.is_open ≡ true → l.is_open ≡ true
  pub dialled : m.dialled ≡ l.dialled
  pub wrong : l.is_wrong ≡ true → m.is_wrong ≡ true

-- so it is where all of these stay as they are
abbrev pub KeepsLine : Line → Line → Type 0
KeepsLine l m = (m.socket ≡ l.socket) × (m.is_open ≡ l.is_open) × (m.dialled ≡ l.dialled) × (m.is_wrong ≡ l.is_wrong)

kept_same : (l m : Line) → KeepsLine l m → Same l m
kept_same l m k = record { socket = k.0; opened = λ e. sym k.1 ∙ e; dialled = k.2; wrong = λ e. k.3 ∙ e }

pub same : (l : Line) → Same l l
same l = kept_same l l (refl, refl, refl, refl)

pub same_then : (k l m : Line) → Same k l → Same l m → Same k m
same_then k l m a b = record { socket = b.socket ∙ a.socket; opened = λ e. a.opened (b.opened e); dialled = b.dialled ∙ a.dialled; wrong = λ e. b.wrong (a.wrong e) }

-- line by line
abbrev pub Alike : List Line → List Line → Type 0
Alike ls ms = Pairs Same ls ms

pub alike : (ls : List Line) → Alike ls ls
alike ls = pairs_same Same same ls

pub alike_then : (ks ls ms : List Line) → Alike ks ls → Alike ls ms → Alike ks ms
alike_then ks ls ms a b = pairs_then Same same_then ks ls ms a b

pub alike_map : (f : Line → Line) → ((l : Line) → Same l (f l)) → (ls : List Line) → Alike ls (map f ls)
alike_map f s ls = pairs_map Same f s ls

same_if : (b : Bool) (l m : Line) → Same l m → Same l (if b then m else l)
same_if true l m s = s
same_if false l m s = same l

pub alike_at : (s : ℕ) (f : Line → Line) → ((l : Line) → Same l (f l)) → (ls : List Line) → Alike ls (in_lines s f ls)
alike_at s f k ls = alike_map (λ l. if l.socket == s then f l else l) (λ l. same_if (l.socket == s) l (f l) (k l)) ls

-- ---- what is so of each line stays so

pub each_alike : (P : Line → Type 0) → ((l m : Line) → Same l m → P l → P m) → (ls ms : List Line) → Alike ls ms → EachIs P ls → EachIs P ms
each_alike P k ls ms a e = pairs_each Same P k ls ms a e

pub not_in_alike : (s : ℕ) (ls ms : List Line) → Alike ls ms → IsNotIn s ls → IsNotIn s ms
not_in_alike s ls ms a n = each_alike (λ l. l.socket ≡ s → ⊥) (λ l m k d e. d (sym k.socket ∙ e)) ls ms a n

not_in_other : (s n : ℕ) (ls : List Line) → s ≡ n → IsNotIn s ls → IsNotIn n ls
not_in_other s n [] e w = tt
not_in_other s n (l ∷ ls) e w = (λ q. w.0 (q ∙ sym e), not_in_other s n ls e w.1)

pub differ_alike : (ls ms : List Line) → Alike ls ms → Differ ls → Differ ms
differ_alike [] [] a d = tt
differ_alike [] (m ∷ ms) a d = absurd a
differ_alike (l ∷ ls) [] a d = absurd a
differ_alike (l ∷ ls) (m ∷ ms) a d = (not_in_other l.socket m.socket ms (sym a.0.socket) (not_in_alike l.socket ls ms a.1 d.0), differ_alike ls ms a.1 d.1)

-- ---- the changes of the rules

pub closed_same : (l : Line) → Same l (closed l)
closed_same l = record { socket = refl; opened = λ e. absurd (false≢true e); dialled = refl; wrong = λ e. e }

pub quieted_same : (l : Line) → Same l (quieted l)
quieted_same l = kept_same l (quieted l) (refl, refl, refl, refl)

pub blocked_same : (l : Line) → Same l (blocked l)
blocked_same l = kept_same l (blocked l) (refl, refl, refl, refl)

pub woken_same : (l : Line) → Same l (woken l)
woken_same l = kept_same l (woken l) (refl, refl, refl, refl)

pub doomed_same : (l : Line) → Same l (doomed l)
doomed_same l = record { socket = refl; opened = λ e. e; dialled = refl; wrong = λ e. refl }

pub ousted_same : (q : ℕ) (l : Line) → Same l (ousted q l)
ousted_same q l = same_if (is_named q l) l (doomed l) (doomed_same l)

pub named_same : (q from next : ℕ) (l : Line) → Same l (named_line q from next l)
named_same q from next l = kept_same l (named_line q from next l) (refl, refl, refl, refl)

pub alike_named : (h : Hearer) (t : Table) (s : ℕ) (l : Line) (q from : ℕ) → Alike t.lines (named h t s l q from).lines
alike_named h t s l q from =
    let u = with_name_free q t in
    alike_then t.lines u.lines (in_lines s (named_line q from (h.next q)) u.lines)
    (alike_map (ousted q) (ousted_same q) t.lines) (alike_at s (named_line q from (h.next q)) (named_same q from (h.next q)) u.lines)

alike_if : (ls : List Line) (b : Bool) (t u : Table) → Alike ls t.lines → Alike ls u.lines → Alike ls (if b then t else u).lines
alike_if ls true t u x y = x
alike_if ls false t u x y = y

pub alike_doomed : (s : ℕ) (t : Table) → Alike t.lines (at_line s doomed t).lines
alike_doomed s t = alike_at s doomed doomed_same t.lines

pub alike_first : (h : Hearer) (t : Table) (s : ℕ) (l : Line) (f : Frame) → Alike t.lines (heard_first h t s l f).lines
alike_first h t s l (Hello id q pass from) = alike_if t.lines (names h t l id q pass) (named h t s l q from) (at_line s doomed t) (alike_named h t s l q from) (alike_doomed s t)
alike_first h t s l (Turn f) = alike_doomed s t
alike_first h t s l (Want place) = alike_doomed s t

pub moved_same : (place : ℕ) (l : Line) → Same l (moved_to place l)
moved_same place l = go l.sending
  where
    go : (o : Option ℕ) → Same l (moved_to place (record l { sending = o }))
    go None = record { socket = refl; opened = λ e. e; dialled = refl; wrong = λ e. e }
    go (Some p) = record { socket = refl; opened = λ e. e; dialled = refl; wrong = λ e. e }

pub alike_obeyed : (t : Table) (s q place : ℕ) (o : Option Seat) → Alike t.lines (obeyed t s q place o).lines
alike_obeyed t s q place None = alike t.lines
alike_obeyed t s q place (Some c) =
    alike_if t.lines (may_want c) (at_seat q obeys (at_line s (moved_to place) t)) t (alike_at s (moved_to place) (moved_same place) t.lines) (alike t.lines)

pub alike_heard_named : (t : Table) (s q : ℕ) (f : Frame) → Alike t.lines (heard_named t s q f).lines
alike_heard_named t s q (Hello id p pass from) = alike_doomed s t
alike_heard_named t s q (Turn f) = alike_if t.lines (L.player_of f == q) (arrived t q f) (at_line s doomed t) (alike t.lines) (alike_doomed s t)
alike_heard_named t s q (Want place) = alike_obeyed t s q place (seat_of t q)

alike_by : (h : Hearer) (t : Table) (s : ℕ) (l : Line) (o : Option ℕ) (f : Frame) → Alike t.lines (heard_by h t s l o f).lines
alike_by h t s l None f = alike_first h t s l f
alike_by h t s l (Some q) f = alike_heard_named t s q f

alike_on : (h : Hearer) (t : Table) (s : ℕ) (f : Frame) (o : Option Line) → Alike t.lines (heard_on h t s f o).lines
alike_on h t s f None = alike t.lines
alike_on h t s f (Some l) = alike_if t.lines l.is_wrong t (heard_by h t s l l.name f) (alike t.lines) (alike_by h t s l l.name f)

pub alike_heard : (h : Hearer) (s : ℕ) (t : Table) (f : Frame) → Alike t.lines (heard h s t f).lines
alike_heard h s t f = alike_on h t s f (line_of t s)

pub alike_frames : (h : Hearer) (s : ℕ) (t : Table) (fs : List Frame) → Alike t.lines (fold (heard h s) t fs).lines
alike_frames h s t [] = alike t.lines
alike_frames h s t (f ∷ fs) = alike_then t.lines (heard h s t f).lines (fold (heard h s) (heard h s t f) fs).lines (alike_heard h s t f) (alike_frames h s (heard h s t f) fs)

pub alike_heard_all : (h : Hearer) (s : ℕ) (g : Given) (t : Table) → Alike t.lines (heard_all h s g t).lines
alike_heard_all h s g t =
    let u = fold (heard h s) t g.frames in
    alike_if t.lines g.reader.bad (at_line s doomed u) u (alike_then t.lines u.lines (at_line s doomed u).lines (alike_frames h s t g.frames) (alike_doomed s u)) (alike_frames h s t g.frames)

pub read_same : (count : ℕ) (g : Given) (l : Line) → Same l (read_on count g l)
read_same count g l = go l.name
  where
    go : (o : Option ℕ) → Same l (record (counted_on o count l) { reader = g.reader })
    go None = record { socket = refl; opened = λ e. e; dialled = refl; wrong = λ e. e }
    go (Some q) = record { socket = refl; opened = λ e. e; dialled = refl; wrong = λ e. e }

alike_counted : (ls : List Line) (o : Option ℕ) (count : ℕ) (t : Table) → Alike ls t.lines → Alike ls (counted o count t).lines
alike_counted ls None count t a = a
alike_counted ls (Some q) count t a = a

pub alike_read : (s : ℕ) (count : ℕ) (g : Given) (l : Line) (t : Table) → Alike t.lines (read_at s count g l t).lines
alike_read s count g l t = alike_counted t.lines l.name count (at_line s (read_on count g) t) (alike_at s (read_on count g) (read_same count g) t.lines)

pub alike_took : (h : Hearer) (t : Table) (s : ℕ) (bytes : List ℕ) (o : Option Line) → Alike t.lines (took_with h t s bytes o).lines
alike_took h t s bytes None = alike t.lines
alike_took h t s bytes (Some l) =
    let g = given_of l.reader bytes in
    let u = read_at s (length bytes) g l t in
    alike_then t.lines u.lines (heard_all h s g u).lines (alike_read s (length bytes) g l t) (alike_heard_all h s g u)

-- ---- giving

-- the socket stays, for whom it was dialled, whether it is open or wrong, and its name; and so does the player's link
abbrev pub KeepsSocket : Desk → Desk → Type 0
KeepsSocket d e =
    (e.line.socket ≡ d.line.socket) × (e.line.is_open ≡ d.line.is_open) × (e.line.dialled ≡ d.line.dialled) × (e.line.is_wrong ≡ d.line.is_wrong) × (e.line.name ≡ d.line.name) ×
    (e.seat.link ≡ d.seat.link)

keeps_marked : (due : Due) (d : Desk) → KeepsSocket d (marked due d)
keeps_marked U.Nothing d = (refl, refl, refl, refl, refl, refl)
keeps_marked (U.Hello next) d = (refl, refl, refl, refl, refl, refl)
keeps_marked (U.Want place) d = (refl, refl, refl, refl, refl, refl)
keeps_marked (U.Own f) d = (refl, refl, refl, refl, refl, refl)

keeps_desk_if : (b : Bool) (d e f : Desk) → KeepsSocket d e → KeepsSocket d f → KeepsSocket d (if b then e else f)
keeps_desk_if true d e f x y = x
keeps_desk_if false d e f x y = y

keeps_ended : (o : Option ℕ) (d : Desk) → KeepsSocket d (ended_with o d)
keeps_ended None d = (refl, refl, refl, refl, refl, refl)
keeps_ended (Some place) d = (refl, refl, refl, refl, refl, refl)

keeps_left : (left : List ℕ) (d : Desk) → KeepsSocket d (left_with left d)
keeps_left left d =
    let e = record d { line = record d.line { unsent = left } } in
    keeps_desk_if (is_empty left) d (ended_with d.line.sending e) e (keeps_ended d.line.sending e) (refl, refl, refl, refl, refl, refl)

pub keeps_gave : (s : Speaker) (own : Option TurnFrame) (count : ℕ) (d : Desk) → KeepsSocket d (gave_on s own count d)
keeps_gave s own count d =
    let b = keeps_desk_if (is_empty d.line.unsent) d (marked (due_on own d) d) d (keeps_marked (due_on own d) d) (refl, refl, refl, refl, refl, refl) in
    let l = keeps_left (drop count (due_bytes s own d)) (begun own d) in
    (l.0 ∙ b.0, l.1 ∙ b.1, l.2 ∙ b.2, l.3 ∙ b.3, l.4 ∙ b.4, l.5 ∙ b.5)

-- nothing is put where the socket isn't
pub none_put : (s : ℕ) (f : Line → Line) (ls : List Line) → IsNotIn s ls → in_lines s f ls ≡ ls
none_put s f [] n = refl
none_put s f (l ∷ ls) n = go (l.socket == s) refl (none_put s f ls n.1)
  where
    go : (b : Bool) → (l.socket == s) ≡ b → in_lines s f ls ≡ ls → (if b then f l else l) ∷ in_lines s f ls ≡ l ∷ ls
    go true e r = absurd (n.0 (eqb-true l.socket s e))
    go false e r = ap (λ (x : List Line). l ∷ x) r

-- the line that is found is of the socket
pub found_socket : (s : ℕ) (ls : List Line) (l : Line) → find (λ m. m.socket == s) ls ≡ Some l → l.socket ≡ s
found_socket s [] l e = absurd (cc)
found_socket s (m ∷ ls) l e = go (m.socket == s) refl e (found_socket s ls l)
  where
    go : (b : Bool) → (m.socket == s) ≡ b → (if b then Some m else find (λ k. k.socket == s) ls) ≡ Some l → (find (λ k. k.socket == s) ls ≡ Some l → l.socket ≡ s) → l.socket ≡ s
    go true q r more = (let x : m ≡ l = cc in ap (λ (k : Line). k.socket) (sym x)) ∙ eqb-true m.socket s q
    go false q r more = more r

-- a line is put in place of the one of its socket
pub alike_put : (s : ℕ) (m l : Line) (ls : List Line) → Differ ls → find (λ k. k.socket == s) ls ≡ Some l → KeepsLine l m → Alike ls (in_lines m.socket (λ _. m) ls)
alike_put s m l [] d e w = absurd (cc)
alike_put s m l (k ∷ ls) d e kept = go (k.socket == s) refl e (λ x. alike_put s m l ls d.1 x kept)
  where
    -- the first one is it, and no other is
    first : (b : Bool) → (k.socket == m.socket) ≡ b → k ≡ l → Same k (if b then m else k)
    first true w x = kept_same k m (subst (λ (y : Line). KeepsLine y m) (sym x) kept)
    first false w x = same k

    tail : (ms : List Line) → IsNotIn k.socket ms → k ≡ l → Alike ms (in_lines m.socket (λ _. m) ms)
    tail ms n x =
        let none = none_put m.socket (λ _. m) ms (not_in_other k.socket m.socket ms (ap (λ (y : Line). y.socket) x ∙ sym kept.0) n) in
        subst (Alike ms) (sym none) (alike ms)

    other : (b : Bool) → (k.socket == m.socket) ≡ b → (k.socket == s) ≡ false → l.socket ≡ s → Same k (if b then m else k)
    other true w x y = absurd (false≢true (sym x ∙ eq-eqb k.socket s (eqb-true k.socket m.socket w ∙ kept.0 ∙ y)))
    other false w x y = same k

    go : (b : Bool) → (k.socket == s) ≡ b → (if b then Some k else find (λ j. j.socket == s) ls) ≡ Some l →
        (find (λ j. j.socket == s) ls ≡ Some l → Alike ls (in_lines m.socket (λ _. m) ls)) → Alike (k ∷ ls) (in_lines m.socket (λ _. m) (k ∷ ls))
    go true x y more = let z : k ≡ l = cc in (first (k.socket == m.socket) refl z, tail ls d.0 z)
    go false x y more = (other (k.socket == m.socket) refl x (found_socket s ls l y), more y)

alike_desk : (k : Speaker) (own : Option TurnFrame) (count : ℕ) (t : Table) (s : ℕ) (l : Line) (o : Option Seat) → Differ t.lines → line_of t s ≡ Some l →
    Alike t.lines (gave_with k own count t (desk_with l o)).lines
alike_desk k own count t s l None d e = alike t.lines
alike_desk k own count t s l (Some c) d e =
    let w = keeps_gave k own count (record { line = l; seat = c }) in
    alike_put s (gave_on k own count (record { line = l; seat = c })).line l t.lines d e (w.0, w.1, w.2, w.3)

pub alike_gave : (k : Speaker) (safe : List TurnFrame) (count : ℕ) (t : Table) (s : ℕ) (o : Option Line) → Differ t.lines → line_of t s ≡ o → Alike t.lines (gave_by k safe count t o).lines
alike_gave k safe count t s None d e = alike t.lines
alike_gave k safe count t s (Some l) d e = alike_desk k (own_at safe l) count t s l (seat_by t (player_of l)) d e
