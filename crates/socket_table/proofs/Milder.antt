-- Milder: giving, closing and a refused write make no line want a read and none ask to be shut.
use Rattle.std.proofs.Common.{◌≡◌, ℕ, ◌-◌, Bool, true, false, refl, sym, ap, ◌∙◌, List, [], ◌∷◌}
use Rattle.std.specs.Prelude.{Option, Some, None, ◌==◌, ◌&&◌, ◌||◌, not}
use Rattle.std.specs.List.{list_all}
use Rattle.std.proofs.lemmas.Bool.{false≢true, and_parts, and_from}
use Rattle.plain_lemmas.proofs.Pairs.{pairs_same, pairs_then}
use Rattle.plain_lemmas.proofs.Tests.{not_kept}
use Rattle.definitions.specs.declared.frames.TurnFrame.{TurnFrame}
use Rattle.rosters.specs.declared.roster.Link.{Link}
use Rattle.socket_lines.specs.declared.limits.TheConstants.{MOST_BYTES, HELLO_BYTES}
use Rattle.socket_lines.specs.declared.line.Line.{Line}
use Rattle.socket_lines.specs.declared.seat.Seat.{Seat}
use Rattle.socket_lines.specs.Lines.{closed, blocked}
use Rattle.socket_lines.specs.Giving.{Speaker}
use Rattle.loop_rules.specs.Tables.{Table, line_of, seat_of, at_line, room_by, room_by_seat, room_on, asks_shut}
use Rattle.loop_rules.specs.After.{gave_by}
use Rattle.loop_rules.specs.Rules.{wants_read}
use Rattle.loop_rules.specs.Licence.{is_read, all_is_read, all_is_shut}
use Rattle.loop_rules.specs.Told.{DiffersBy, Differ}
use Rattle.socket_list.specs.Pairs.{Both}
use Rattle.socket_table.specs.Staying.{MilderLine, Milder}
use Rattle.socket_list.proofs.Pairs.{pairs_weaker, pairs_key, pairs_all, found_both}
use Rattle.socket_table.proofs.Giving.{KeepsLine, KeepsSeat, keeps_line, gave_keeps, gave_lines, gave_keeps_seats}
use Rattle.socket_table.proofs.ReadingRooms.{wants_parts, wants_from}

milder_line : (l : Line) → MilderLine l l
milder_line l = record { socket = refl; dialled = refl; name = refl; taken = refl; quiet = refl; wrong = refl; opened = λ e. e }

milder_line_then : (k l m : Line) → MilderLine k l → MilderLine l m → MilderLine k m
milder_line_then k l m a b = record {
  socket = b.socket ∙ a.socket;
  dialled = b.dialled ∙ a.dialled;
  name = b.name ∙ a.name;
  taken = b.taken ∙ a.taken;
  quiet = b.quiet ∙ a.quiet;
  wrong = b.wrong ∙ a.wrong;
  opened = λ e. a.opened (b.opened e);
}

pub milder : (t : Table) → Milder t t
milder t = record { lines = pairs_same MilderLine milder_line t.lines; rooms = λ q. refl }

pub milder_then : (t u v : Table) → Milder t u → Milder u v → Milder t v
milder_then t u v a b = record { lines = pairs_then MilderLine milder_line_then t.lines u.lines v.lines a.lines b.lines; rooms = λ q. b.rooms q ∙ a.rooms q }

-- ---- how it comes about

pub closed_milder : (s : ℕ) (t : Table) → Milder t (at_line s closed t)
closed_milder s t = record {
  lines = pairs_key MilderLine (λ l. l.socket) s closed milder_line
      (λ l e. record { socket = refl; dialled = refl; name = refl; taken = refl; quiet = refl; wrong = refl; opened = λ w. absurd (false≢true w) }) t.lines;
  rooms = λ q. refl;
}

pub blocked_milder : (s : ℕ) (t : Table) → Milder t (at_line s blocked t)
blocked_milder s t = record {
  lines = pairs_key MilderLine (λ l. l.socket) s blocked milder_line (λ l e. record { socket = refl; dialled = refl; name = refl; taken = refl; quiet = refl; wrong = refl; opened = λ w. w }) t.lines;
  rooms = λ q. refl;
}

room_kept : (o p : Option Seat) → Both KeepsSeat o p → room_by_seat p ≡ room_by_seat o
room_kept None None b = refl
room_kept None (Some d) b = absurd b
room_kept (Some c) None b = absurd b
room_kept (Some c) (Some d) b = ap (λ n. MOST_BYTES - n) b.spent

pub gave_milder : (k : Speaker) (safe : List TurnFrame) (count s : ℕ) (t : Table) → Differ t.lines → DiffersBy (λ c. c.link.player) t.seats → Milder t (gave_by k safe count t (line_of t s))
gave_milder k safe count s t d e =
    let u = gave_by k safe count t (line_of t s) in
    record {
      lines = pairs_weaker KeepsLine MilderLine
          (λ l m w. record { socket = w.socket; dialled = w.dialled; name = w.name; taken = w.taken; quiet = w.quiet; wrong = w.wrong; opened = λ o. sym w.opened ∙ o }) t.lines u.lines
          (gave_lines KeepsLine keeps_line k safe count s t (line_of t s) d refl (λ own c l w. (gave_keeps k own count (record { line = l; seat = c })).line));
      rooms = λ q. room_kept (seat_of t q) (seat_of u q)
          (found_both KeepsSeat (λ c. c.link.player) q (λ c f w. ap (λ (x : Link). x.player) w.link) t.seats u.seats (gave_keeps_seats k safe count t (line_of t s) e));
    }

-- ---- what follows

room_same : (t u : Table) → Milder t u → (l m : Line) → MilderLine l m → room_on u m ≡ room_on t l
room_same t u w l m k = ap (room_by u m) k.name ∙ go l.name
  where
    go : (o : Option ℕ) → room_by u m o ≡ room_by t l o
    go None = ap (λ n. HELLO_BYTES - n) k.taken
    go (Some q) = w.rooms q

reads_before : (t u : Table) → Milder t u → (l m : Line) → MilderLine l m → wants_read u m ≡ true → wants_read t l ≡ true
reads_before t u w l m k e =
    let p = wants_parts m.is_open m.is_wrong (room_on u m == 0) m.is_quiet e in
    wants_from l.is_open l.is_wrong (room_on t l == 0) l.is_quiet (k.opened p.0) (sym k.wrong ∙ p.1) (ap (λ n. n == 0) (sym (room_same t u w l m k)) ∙ p.2) (sym k.quiet ∙ p.3)

pub milder_reads : (t u : Table) → Milder t u → list_all (λ l. not (wants_read t l)) t.lines ≡ true → list_all (λ l. not (wants_read u l)) u.lines ≡ true
milder_reads t u w e =
    pairs_all MilderLine (λ l. not (wants_read t l)) (λ l. not (wants_read u l)) (λ l m k. not_kept (wants_read t l) (wants_read u m) (reads_before t u w l m k)) t.lines u.lines w.lines e

-- an open line that is quiet stays so
read_so : (is_open quiet : Bool) (l : Line) → (is_open ≡ true → l.is_open ≡ true) → quiet ≡ l.is_quiet → is_read l ≡ true → (not is_open || quiet) ≡ true
read_so false quiet l o q e = refl
read_so true quiet l o q e = q ∙ sym (ap (λ (b : Bool). not b || l.is_quiet) (o refl)) ∙ e

pub milder_is_read : (t u : Table) → Milder t u → list_all is_read t.lines ≡ true → list_all is_read u.lines ≡ true
milder_is_read t u w e = pairs_all MilderLine is_read is_read (λ l m k r. read_so m.is_open m.is_quiet l k.opened k.quiet r) t.lines u.lines w.lines e

shut_before : (t u : Table) → Milder t u → (l m : Line) → MilderLine l m → asks_shut u m ≡ true → asks_shut t l ≡ true
shut_before t u w l m k e =
    let p = and_parts m.is_open (m.is_wrong || (room_on u m == 0)) e in
    and_from l.is_open (l.is_wrong || (room_on t l == 0)) (k.opened p.0)
    (ap (λ (b : Bool). b || (room_on t l == 0)) (sym k.wrong) ∙ ap (λ n. m.is_wrong || (n == 0)) (sym (room_same t u w l m k)) ∙ p.1)

pub milder_shut : (t u : Table) → Milder t u → all_is_shut t ≡ true → all_is_shut u ≡ true
milder_shut t u w e =
    pairs_all MilderLine (λ l. not (asks_shut t l)) (λ l. not (asks_shut u l)) (λ l m k. not_kept (asks_shut t l) (asks_shut u m) (shut_before t u w l m k)) t.lines u.lines w.lines e

-- what wants no read and does not ask to be shut was read
read_one : (is_open shut quiet : Bool) → not (is_open && not shut && not quiet) ≡ true → not shut ≡ true → (not is_open || quiet) ≡ true
read_one false shut quiet a b = refl
read_one true true quiet a b = absurd (false≢true b)
read_one true false true a b = refl
read_one true false false a b = absurd (false≢true a)

read_all : (t : Table) (ls : List Line) → list_all (λ l. not (wants_read t l)) ls ≡ true → list_all (λ l. not (asks_shut t l)) ls ≡ true → list_all is_read ls ≡ true
read_all t [] a b = refl
read_all t (l ∷ ls) a b =
    let p = and_parts (not (wants_read t l)) (list_all (λ m. not (wants_read t m)) ls) a in
    let q = and_parts (not (asks_shut t l)) (list_all (λ m. not (asks_shut t m)) ls) b in
    and_from (is_read l) (list_all is_read ls) (read_one l.is_open (asks_shut t l) l.is_quiet p.0 q.0) (read_all t ls p.1 q.1)

pub read_where_shut : (t : Table) → list_all (λ l. not (wants_read t l)) t.lines ≡ true → all_is_shut t ≡ true → all_is_read t ≡ true
read_where_shut t a b = read_all t t.lines a b
