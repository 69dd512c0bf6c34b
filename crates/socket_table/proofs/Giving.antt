-- Giving: what bytes that are given leave of each line and each seat as it was.
use Rattle.std.proofs.Common.{◌≡◌, ℕ, Bool, true, false, refl, ap, ◌∙◌, List, [], ◌∷◌}
use Rattle.std.specs.Prelude.{Option, Some, None, drop, if◌then◌else◌}
use Rattle.std.proofs.lemmas.Bool.{false≢true}
use Rattle.plain_lemmas.proofs.Pairs.{Pairs, pairs_same}
use Rattle.definitions.specs.Lists.{is_empty}
use Rattle.definitions.specs.declared.frames.TurnFrame.{TurnFrame}
use Rattle.rosters.specs.declared.roster.Link.{Link}
use Rattle.socket_lines.specs.declared.giving.Due.{Due}
use Rattle.socket_lines.specs.declared.giving.Due.TheVariants as U
use Rattle.socket_lines.specs.declared.line.Line.{Line}
use Rattle.socket_lines.specs.declared.seat.Seat.{Seat}
use Rattle.socket_lines.specs.Lines.{player_of}
use Rattle.socket_lines.specs.Giving.{Desk, Speaker, due_on, due_bytes, marked, begun, ended_with, left_with, gave}
use Rattle.loop_rules.specs.Tables.{Table, line_of, seat_of, seat_by, desk_with}
use Rattle.loop_rules.specs.After.{gave_on, gave_with, gave_by, own_at}
use Rattle.loop_rules.specs.Told.{DiffersBy, Differ}
use Rattle.socket_list.proofs.Pairs.{pairs_put, found_has}

-- ---- one desk

pub record KeepsLine (l m : Line) : Type 0 where
  pub socket : m.socket ≡ l.socket
  pub opened : m.is_open ≡ l.is_open
  pub dialled : m.dialled ≡ l.dialled
  pub name : m.name ≡ l.name
  pub reader : m.reader ≡ l.reader
  pub taken : m.taken ≡ l.taken
  pub quiet : m.is_quiet ≡ l.is_quiet
  pub wrong : m.is_wrong ≡ l.is_wrong

-- no WANT becomes due
pub record KeepsSeat (c d : Seat) : Type 0 where
  pub link : d.link ≡ c.link
  pub spent : d.spent ≡ c.spent
  pub most : d.asks.most ≡ c.asks.most
  pub dialled : d.is_dialled ≡ c.is_dialled
  pub none_due : is_empty c.asks.due ≡ true → is_empty d.asks.due ≡ true

-- what a write changes of neither
pub record KeepsDesk (d e : Desk) : Type 0 where
  pub line : KeepsLine d.line e.line
  pub seat : KeepsSeat d.seat e.seat

pub keeps_line : (l : Line) → KeepsLine l l
keeps_line l = record { socket = refl; opened = refl; dialled = refl; name = refl; reader = refl; taken = refl; quiet = refl; wrong = refl }

pub keeps_seat : (c : Seat) → KeepsSeat c c
keeps_seat c = record { link = refl; spent = refl; most = refl; dialled = refl; none_due = λ e. e }

line_then : (k l m : Line) → KeepsLine k l → KeepsLine l m → KeepsLine k m
line_then k l m a b = record {
  socket = b.socket ∙ a.socket;
  opened = b.opened ∙ a.opened;
  dialled = b.dialled ∙ a.dialled;
  name = b.name ∙ a.name;
  reader = b.reader ∙ a.reader;
  taken = b.taken ∙ a.taken;
  quiet = b.quiet ∙ a.quiet;
  wrong = b.wrong ∙ a.wrong;
}

seat_then : (b c d : Seat) → KeepsSeat b c → KeepsSeat c d → KeepsSeat b d
seat_then b c d x y = record { link = y.link ∙ x.link; spent = y.spent ∙ x.spent; most = y.most ∙ x.most; dialled = y.dialled ∙ x.dialled; none_due = λ e. y.none_due (x.none_due e) }

keeps_then : (d e f : Desk) → KeepsDesk d e → KeepsDesk e f → KeepsDesk d f
keeps_then d e f a b = record { line = line_then d.line e.line f.line a.line b.line; seat = seat_then d.seat e.seat f.seat a.seat b.seat }

keeps_either : (b : Bool) (d e f : Desk) → KeepsDesk d e → KeepsDesk d f → KeepsDesk d (if b then e else f)
keeps_either true d e f x y = x
keeps_either false d e f x y = y

drop_empty : (xs : List ℕ) → is_empty xs ≡ true → is_empty (drop 1 xs) ≡ true
drop_empty [] e = refl
drop_empty (x ∷ xs) e = absurd (false≢true e)

keeps_marked : (due : Due) (d : Desk) → KeepsDesk d (marked due d)
keeps_marked U.Nothing d = record { line = keeps_line d.line; seat = keeps_seat d.seat }
keeps_marked (U.Hello next) d = record { line = record { socket = refl; opened = refl; dialled = refl; name = refl; reader = refl; taken = refl; quiet = refl; wrong = refl }; seat = keeps_seat d.seat }
keeps_marked (U.Want place) d = record { line = keeps_line d.line; seat = record { link = refl; spent = refl; most = refl; dialled = refl; none_due = drop_empty d.seat.asks.due } }
keeps_marked (U.Own f) d = record { line = record { socket = refl; opened = refl; dialled = refl; name = refl; reader = refl; taken = refl; quiet = refl; wrong = refl }; seat = keeps_seat d.seat }

keeps_begun : (own : Option TurnFrame) (d : Desk) → KeepsDesk d (begun own d)
keeps_begun own d =
    keeps_either (is_empty d.line.unsent) d (marked (due_on own d) d) d (keeps_marked (due_on own d) d) (record { line = keeps_line d.line; seat = keeps_seat d.seat })

keeps_ended : (o : Option ℕ) (d : Desk) → KeepsDesk d (ended_with o d)
keeps_ended None d = record { line = keeps_line d.line; seat = keeps_seat d.seat }
keeps_ended (Some place) d = record {
  line = record { socket = refl; opened = refl; dialled = refl; name = refl; reader = refl; taken = refl; quiet = refl; wrong = refl };
  seat = record { link = refl; spent = refl; most = refl; dialled = refl; none_due = λ e. e };
}

keeps_left : (left : List ℕ) (d : Desk) → KeepsDesk d (left_with left d)
keeps_left left d =
    let e : Desk = record d { line = record d.line { unsent = left } } in
    let same : KeepsDesk d e = record { line = record { socket = refl; opened = refl; dialled = refl; name = refl; reader = refl; taken = refl; quiet = refl; wrong = refl }; seat = keeps_seat d.seat } in
    keeps_either (is_empty left) d (ended_with d.line.sending e) e (keeps_then d e (ended_with d.line.sending e) same (keeps_ended d.line.sending e)) same

pub keeps_giving : (k : Speaker) (own : Option TurnFrame) (count : ℕ) (d : Desk) → KeepsDesk d (gave k own count d)
keeps_giving k own count d = keeps_then d (begun own d) (gave k own count d) (keeps_begun own d) (keeps_left (drop count (due_bytes k own d)) (begun own d))

pub gave_keeps : (k : Speaker) (own : Option TurnFrame) (count : ℕ) (d : Desk) → KeepsDesk d (gave_on k own count d)
gave_keeps k own count d =
    let left = keeps_giving k own count d in
    record {
      line = record { socket = left.line.socket; opened = left.line.opened; dialled = left.line.dialled; name = left.line.name; reader = left.line.reader; taken = left.line.taken; quiet = left.line.quiet; wrong = left.line.wrong };
      seat = record { link = left.seat.link; spent = left.seat.spent; most = left.seat.most; dialled = left.seat.dialled; none_due = left.seat.none_due };
    }

-- ---- all lines and all seats

lines_desk : (R : Line → Line → Type 0) → ((l : Line) → R l l) → (k : Speaker) (own : Option TurnFrame) (count : ℕ) (t : Table) (s : ℕ) (l : Line) (o : Option Seat) → Differ t.lines → line_of t s ≡ Some l →
    ((c : Seat) → R l (gave_on k own count (record { line = l; seat = c })).line) → Pairs R t.lines (gave_with k own count t (desk_with l o)).lines
lines_desk R stays k own count t s l None d e r = pairs_same R stays t.lines
lines_desk R stays k own count t s l (Some c) d e r =
    let m = (gave_on k own count (record { line = l; seat = c })).line in
    let socket = (gave_keeps k own count (record { line = l; seat = c })).line.socket in
    pairs_put R (λ x. x.socket) s m.socket l m stays t.lines d e (socket ∙ found_has (λ x. x.socket) s t.lines l e) (r c)

-- the relation holds line by line, where it holds of the one that is written on
pub gave_lines : (R : Line → Line → Type 0) → ((l : Line) → R l l) → (k : Speaker) (safe : List TurnFrame) (count s : ℕ) (t : Table) (o : Option Line) → Differ t.lines → line_of t s ≡ o →
    ((own : Option TurnFrame) (c : Seat) (l : Line) → l.socket ≡ s → R l (gave_on k own count (record { line = l; seat = c })).line) → Pairs R t.lines (gave_by k safe count t o).lines
gave_lines R stays k safe count s t None d e r = pairs_same R stays t.lines
gave_lines R stays k safe count s t (Some l) d e r =
    lines_desk R stays k (own_at safe l) count t s l (seat_by t (player_of l)) d e (λ c. r (own_at safe l) c l (found_has (λ x. x.socket) s t.lines l e))

seats_desk : (k : Speaker) (own : Option TurnFrame) (count : ℕ) (t : Table) (l : Line) (p : Option ℕ) → DiffersBy (λ c. c.link.player) t.seats →
    Pairs KeepsSeat t.seats (gave_with k own count t (desk_with l (seat_by t p))).seats
seats_desk k own count t l None d = pairs_same KeepsSeat keeps_seat t.seats
seats_desk k own count t l (Some q) d = go (seat_of t q) refl
  where
    go : (o : Option Seat) → seat_of t q ≡ o → Pairs KeepsSeat t.seats (gave_with k own count t (desk_with l o)).seats
    go None e = pairs_same KeepsSeat keeps_seat t.seats
    go (Some c) e =
        let new = (gave_on k own count (record { line = l; seat = c })).seat in
        let kept = (gave_keeps k own count (record { line = l; seat = c })).seat in
        pairs_put KeepsSeat (λ x. x.link.player) q new.link.player c new keeps_seat t.seats d e
        (ap (λ (x : Link). x.player) kept.link ∙ found_has (λ x. x.link.player) q t.seats c e) kept

pub gave_keeps_seats : (k : Speaker) (safe : List TurnFrame) (count : ℕ) (t : Table) (o : Option Line) → DiffersBy (λ c. c.link.player) t.seats → Pairs KeepsSeat t.seats (gave_by k safe count t o).seats
gave_keeps_seats k safe count t None d = pairs_same KeepsSeat keeps_seat t.seats
gave_keeps_seats k safe count t (Some l) d = seats_desk k (own_at safe l) count t l (player_of l) d
