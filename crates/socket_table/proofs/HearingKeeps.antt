-- Hearing: what is so of each line and each seat behind the frames that come on a socket, by what is so of each change that hearing makes.
use Rattle.std.proofs.Common.{◌≡◌, ℕ, Bool, true, false, refl, List, [], ◌∷◌, length}
use Rattle.std.specs.Prelude.{Option, Some, None, ◌==◌, ◌&&◌, is_some, if◌then◌else◌}
use Rattle.std.specs.List.{fold}
use Rattle.std.specs.Str.{bytes_eq}
use Rattle.std.proofs.lemmas.Bool.{and_parts, false≢true}
use Rattle.plain_lemmas.proofs.Pairs.{Pairs, pairs_same, pairs_then, pairs_map}
use Rattle.definitions.specs.Logs as L
use Rattle.wire_frames.specs.declared.frames.Frame.{Frame}
use Rattle.wire_frames.specs.declared.frames.Frame.TheVariants.{Hello, Turn, Want}
use Rattle.wire_frames.specs.Streams.{Given, given_of}
use Rattle.socket_lines.specs.declared.line.Line.{Line}
use Rattle.socket_lines.specs.declared.seat.Seat.{Seat}
use Rattle.socket_lines.specs.Seats as S
use Rattle.socket_lines.specs.Lines.{is_named, lets_name, named_line, doomed, moved_to}
use Rattle.loop_rules.specs.Tables.{Table, line_of, seat_of, at_line, at_seat}
use Rattle.loop_rules.specs.Hearing.{Hearer, lets_seat_name, names, ousted, with_name_free, named, heard_first, obeyed, arrived, heard_named, heard_by, heard_on, heard, counted, read_on, read_at, heard_all, took_with}
use Rattle.socket_list.proofs.Pairs.{pair_if, pairs_key}

-- ---- lines

-- the relation holds of a line and of what hearing on the socket makes of it, its name aside
pub record LetsLine (s : ℕ) (R : Line → Line → Type 0) : Type 0 where
  pub stays : (l : Line) → R l l
  pub goes_on : (k l m : Line) → R k l → R l m → R k m
  pub dooms : (l : Line) → R l (doomed l)
  pub jumps : (place : ℕ) (l : Line) → l.socket ≡ s → R l (record l { jump = Some place })
  pub turns : (place : ℕ) (l : Line) → l.socket ≡ s → R l (record l { cursor = place })

-- it holds where the socket is named so
abbrev pub LetsName : (s q : ℕ) → (R : Line → Line → Type 0) → Type 0
LetsName s q R = (from next : ℕ) (l : Line) → l.socket ≡ s → R l (named_line q from next l)

-- it holds where the socket is named so in the table
abbrev pub LetsNames : (s : ℕ) → Table → (R : Line → Line → Type 0) → Type 0
LetsNames s t R = (q : ℕ) (c : Seat) → seat_of t q ≡ Some c → LetsName s q R

lines_if : (R : Line → Line → Type 0) (ls : List Line) (b : Bool) (t u : Table) → Pairs R ls t.lines → Pairs R ls u.lines → Pairs R ls (if b then t else u).lines
lines_if R ls true t u x y = x
lines_if R ls false t u x y = y

pub lines_doomed : (s : ℕ) (R : Line → Line → Type 0) → LetsLine s R → (n : ℕ) (t : Table) → Pairs R t.lines (at_line n doomed t).lines
lines_doomed s R k n t = pairs_key R (λ l. l.socket) n doomed k.stays (λ l e. k.dooms l) t.lines

lines_free : (s : ℕ) (R : Line → Line → Type 0) → LetsLine s R → (q : ℕ) (t : Table) → Pairs R t.lines (with_name_free q t).lines
lines_free s R k q t = pairs_map R (ousted q) (λ l. pair_if R (is_named q l) l (doomed l) (λ e. k.dooms l) (k.stays l)) t.lines

lines_named : (s : ℕ) (R : Line → Line → Type 0) → LetsLine s R → (h : Hearer) (t : Table) (l : Line) (q from : ℕ) → LetsName s q R → Pairs R t.lines (named h t s l q from).lines
lines_named s R k h t l q from n =
    let u = with_name_free q t in
    pairs_then R k.goes_on t.lines u.lines (at_line s (named_line q from (h.next q)) u).lines (lines_free s R k q t)
    (pairs_key R (λ m. m.socket) s (named_line q from (h.next q)) k.stays (λ m e. n from (h.next q) m e) u.lines)

seat_there : (o : Option Seat) (pass : List ℕ) → lets_seat_name o pass ≡ true → (c : Seat) × (o ≡ Some c)
seat_there None pass e = absurd (false≢true e)
seat_there (Some c) pass e = (c, refl)

-- who is named has a seat
pub named_seat : (h : Hearer) (t : Table) (l : Line) (id : List ℕ) (q : ℕ) (pass : List ℕ) → names h t l id q pass ≡ true → (c : Seat) × (seat_of t q ≡ Some c)
named_seat h t l id q pass e =
    let p = and_parts (bytes_eq id h.id && lets_seat_name (seat_of t q) pass) (lets_name q l) e in
    seat_there (seat_of t q) pass (and_parts (bytes_eq id h.id) (lets_seat_name (seat_of t q) pass) p.0).1

lines_first : (s : ℕ) (R : Line → Line → Type 0) → LetsLine s R → (h : Hearer) (t : Table) (l : Line) (f : Frame) → LetsNames s t R → Pairs R t.lines (heard_first h t s l f).lines
lines_first s R k h t l (Hello id q pass from) n = go (names h t l id q pass) refl
  where
    go : (b : Bool) → names h t l id q pass ≡ b → Pairs R t.lines (if b then named h t s l q from else at_line s doomed t).lines
    go true e = let c = named_seat h t l id q pass e in lines_named s R k h t l q from (n q c.0 c.1)
    go false e = lines_doomed s R k s t
lines_first s R k h t l (Turn f) n = lines_doomed s R k s t
lines_first s R k h t l (Want place) n = lines_doomed s R k s t

line_moved : (s : ℕ) (R : Line → Line → Type 0) → LetsLine s R → (place : ℕ) (l : Line) → l.socket ≡ s → R l (moved_to place l)
line_moved s R k place l e = go (is_some l.sending)
  where
    go : (b : Bool) → R l (if b then record l { jump = Some place } else record l { cursor = place })
    go true = k.jumps place l e
    go false = k.turns place l e

lines_obeyed : (s : ℕ) (R : Line → Line → Type 0) → LetsLine s R → (t : Table) (q place : ℕ) (o : Option Seat) → Pairs R t.lines (obeyed t s q place o).lines
lines_obeyed s R k t q place None = pairs_same R k.stays t.lines
lines_obeyed s R k t q place (Some c) =
    lines_if R t.lines (S.may_want c) (at_seat q S.obeys (at_line s (moved_to place) t)) t
    (pairs_key R (λ l. l.socket) s (moved_to place) k.stays (line_moved s R k place) t.lines) (pairs_same R k.stays t.lines)

pub lines_heard_named : (s : ℕ) (R : Line → Line → Type 0) → LetsLine s R → (t : Table) (q : ℕ) (f : Frame) → Pairs R t.lines (heard_named t s q f).lines
lines_heard_named s R k t q (Hello id p pass from) = lines_doomed s R k s t
lines_heard_named s R k t q (Turn f) = lines_if R t.lines (L.player_of f == q) (arrived t q f) (at_line s doomed t) (pairs_same R k.stays t.lines) (lines_doomed s R k s t)
lines_heard_named s R k t q (Want place) = lines_obeyed s R k t q place (seat_of t q)

lines_by : (s : ℕ) (R : Line → Line → Type 0) → LetsLine s R → (h : Hearer) (t : Table) (l : Line) (o : Option ℕ) (f : Frame) → LetsNames s t R → Pairs R t.lines (heard_by h t s l o f).lines
lines_by s R k h t l None f n = lines_first s R k h t l f n
lines_by s R k h t l (Some q) f n = lines_heard_named s R k t q f

lines_on : (s : ℕ) (R : Line → Line → Type 0) → LetsLine s R → (h : Hearer) (t : Table) (f : Frame) (o : Option Line) → LetsNames s t R → Pairs R t.lines (heard_on h t s f o).lines
lines_on s R k h t f None n = pairs_same R k.stays t.lines
lines_on s R k h t f (Some l) n = lines_if R t.lines l.is_wrong t (heard_by h t s l l.name f) (pairs_same R k.stays t.lines) (lines_by s R k h t l l.name f n)

-- behind a frame
pub lines_heard : (s : ℕ) (R : Line → Line → Type 0) → LetsLine s R → (h : Hearer) (t : Table) (f : Frame) → LetsNames s t R → Pairs R t.lines (heard h s t f).lines
lines_heard s R k h t f n = lines_on s R k h t f (line_of t s) n

pub lines_frames : (s : ℕ) (R : Line → Line → Type 0) → LetsLine s R → ((q : ℕ) → LetsName s q R) → (h : Hearer) (t : Table) (fs : List Frame) → Pairs R t.lines (fold (heard h s) t fs).lines
lines_frames s R k n h t [] = pairs_same R k.stays t.lines
lines_frames s R k n h t (f ∷ fs) =
    pairs_then R k.goes_on t.lines (heard h s t f).lines (fold (heard h s) (heard h s t f) fs).lines
    (lines_heard s R k h t f (λ q c e. n q)) (lines_frames s R k n h (heard h s t f) fs)

-- behind all that was given
pub lines_heard_all : (s : ℕ) (R : Line → Line → Type 0) → LetsLine s R → ((q : ℕ) → LetsName s q R) → (h : Hearer) (g : Given) (t : Table) → Pairs R t.lines (heard_all h s g t).lines
lines_heard_all s R k n h g t =
    let u = fold (heard h s) t g.frames in
    let frames = lines_frames s R k n h t g.frames in
    lines_if R t.lines g.reader.bad (at_line s doomed u) u (pairs_then R k.goes_on t.lines u.lines (at_line s doomed u).lines frames (lines_doomed s R k s u)) frames

pub counted_lines : (o : Option ℕ) (count : ℕ) (t : Table) → (counted o count t).lines ≡ t.lines
counted_lines None count t = refl
counted_lines (Some q) count t = refl

-- the lines behind a read are those whose bytes were read
pub read_lines : (s count : ℕ) (g : Given) (l : Line) (t : Table) → (read_at s count g l t).lines ≡ (at_line s (read_on count g) t).lines
read_lines s count g l t = counted_lines l.name count (at_line s (read_on count g) t)

-- ---- seats

-- the relation holds of a seat and of what hearing makes of it
pub record LetsSeat (R : Seat → Seat → Type 0) : Type 0 where
  pub stays : (c : Seat) → R c c
  pub goes_on : (b c d : Seat) → R b c → R c d → R b d
  pub named_by : (taken from : ℕ) (c : Seat) → R c (S.names taken from c)
  pub obeyed_of : (c : Seat) → R c (S.obeys c)
  pub reached : (place : ℕ) (c : Seat) → R c (S.reaches place c)
  pub spent : (count : ℕ) (c : Seat) → R c (S.spends count c)

seats_if : (R : Seat → Seat → Type 0) (cs : List Seat) (b : Bool) (t u : Table) → Pairs R cs t.seats → Pairs R cs u.seats → Pairs R cs (if b then t else u).seats
seats_if R cs true t u x y = x
seats_if R cs false t u x y = y

-- one seat changes
pub seats_at : (R : Seat → Seat → Type 0) → ((c : Seat) → R c c) → (q : ℕ) (f : Seat → Seat) → ((c : Seat) → R c (f c)) → (t : Table) → Pairs R t.seats (at_seat q f t).seats
seats_at R s q f k t = pairs_key R (λ c. c.link.player) q f s (λ c e. k c) t.seats

seats_first : (R : Seat → Seat → Type 0) → LetsSeat R → (h : Hearer) (t : Table) (s : ℕ) (l : Line) (f : Frame) → Pairs R t.seats (heard_first h t s l f).seats
seats_first R k h t s l (Hello id q pass from) =
    seats_if R t.seats (names h t l id q pass) (named h t s l q from) (at_line s doomed t) (seats_at R k.stays q (S.names l.taken from) (k.named_by l.taken from) t) (pairs_same R k.stays t.seats)
seats_first R k h t s l (Turn f) = pairs_same R k.stays t.seats
seats_first R k h t s l (Want place) = pairs_same R k.stays t.seats

seats_obeyed : (R : Seat → Seat → Type 0) → LetsSeat R → (t : Table) (s q place : ℕ) (o : Option Seat) → Pairs R t.seats (obeyed t s q place o).seats
seats_obeyed R k t s q place None = pairs_same R k.stays t.seats
seats_obeyed R k t s q place (Some c) =
    seats_if R t.seats (S.may_want c) (at_seat q S.obeys (at_line s (moved_to place) t)) t (seats_at R k.stays q S.obeys k.obeyed_of t) (pairs_same R k.stays t.seats)

seats_named : (R : Seat → Seat → Type 0) → LetsSeat R → (t : Table) (s q : ℕ) (f : Frame) → Pairs R t.seats (heard_named t s q f).seats
seats_named R k t s q (Hello id p pass from) = pairs_same R k.stays t.seats
seats_named R k t s q (Turn f) = seats_if R t.seats (L.player_of f == q) (arrived t q f) (at_line s doomed t) (pairs_same R k.stays t.seats) (pairs_same R k.stays t.seats)
seats_named R k t s q (Want place) =
    let u = obeyed t s q place (seat_of t q) in
    pairs_then R k.goes_on t.seats u.seats (at_seat q (S.reaches place) u).seats (seats_obeyed R k t s q place (seat_of t q)) (seats_at R k.stays q (S.reaches place) (k.reached place) u)

seats_by : (R : Seat → Seat → Type 0) → LetsSeat R → (h : Hearer) (t : Table) (s : ℕ) (l : Line) (o : Option ℕ) (f : Frame) → Pairs R t.seats (heard_by h t s l o f).seats
seats_by R k h t s l None f = seats_first R k h t s l f
seats_by R k h t s l (Some q) f = seats_named R k t s q f

seats_on : (R : Seat → Seat → Type 0) → LetsSeat R → (h : Hearer) (t : Table) (s : ℕ) (f : Frame) (o : Option Line) → Pairs R t.seats (heard_on h t s f o).seats
seats_on R k h t s f None = pairs_same R k.stays t.seats
seats_on R k h t s f (Some l) = seats_if R t.seats l.is_wrong t (heard_by h t s l l.name f) (pairs_same R k.stays t.seats) (seats_by R k h t s l l.name f)

pub seats_heard : (R : Seat → Seat → Type 0) → LetsSeat R → (h : Hearer) (s : ℕ) (t : Table) (f : Frame) → Pairs R t.seats (heard h s t f).seats
seats_heard R k h s t f = seats_on R k h t s f (line_of t s)

pub seats_frames : (R : Seat → Seat → Type 0) → LetsSeat R → (h : Hearer) (s : ℕ) (t : Table) (fs : List Frame) → Pairs R t.seats (fold (heard h s) t fs).seats
seats_frames R k h s t [] = pairs_same R k.stays t.seats
seats_frames R k h s t (f ∷ fs) =
    pairs_then R k.goes_on t.seats (heard h s t f).seats (fold (heard h s) (heard h s t f) fs).seats (seats_heard R k h s t f) (seats_frames R k h s (heard h s t f) fs)

pub seats_heard_all : (R : Seat → Seat → Type 0) → LetsSeat R → (h : Hearer) (s : ℕ) (g : Given) (t : Table) → Pairs R t.seats (heard_all h s g t).seats
seats_heard_all R k h s g t =
    let u = fold (heard h s) t g.frames in
    let frames = seats_frames R k h s t g.frames in
    seats_if R t.seats g.reader.bad (at_line s doomed u) u frames frames

seats_counted : (R : Seat → Seat → Type 0) → LetsSeat R → (o : Option ℕ) (count : ℕ) (t : Table) → Pairs R t.seats (counted o count t).seats
seats_counted R k None count t = pairs_same R k.stays t.seats
seats_counted R k (Some q) count t = seats_at R k.stays q (S.spends count) (k.spent count) t

pub seats_read : (R : Seat → Seat → Type 0) → LetsSeat R → (s count : ℕ) (g : Given) (l : Line) (t : Table) → Pairs R t.seats (read_at s count g l t).seats
seats_read R k s count g l t = seats_counted R k l.name count (at_line s (read_on count g) t)

-- behind bytes that came
pub seats_took : (R : Seat → Seat → Type 0) → LetsSeat R → (h : Hearer) (t : Table) (s : ℕ) (bytes : List ℕ) (o : Option Line) → Pairs R t.seats (took_with h t s bytes o).seats
seats_took R k h t s bytes None = pairs_same R k.stays t.seats
seats_took R k h t s bytes (Some l) =
    let g = given_of l.reader bytes in
    let u = read_at s (length bytes) g l t in
    pairs_then R k.goes_on t.seats u.seats (heard_all h s g u).seats (seats_read R k s (length bytes) g l t) (seats_heard_all R k h s g u)
