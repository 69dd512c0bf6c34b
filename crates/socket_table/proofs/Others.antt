-- Others: bytes that are given on one socket, its end and a refused write make nothing due on another one.
use Rattle.std.proofs.Common.{◌≡◌, ℕ, Bool, true, false, refl, sym, ap, subst, ◌∙◌, List}
use Rattle.std.specs.Prelude.{Option, Some, None, ◌&&◌, ◌||◌, is_some, nat_lt, not, slice_get}
use Rattle.std.proofs.lemmas.Bool.{false≢true, not-true}
use Rattle.plain_lemmas.proofs.Pairs.{Pairs}
use Rattle.definitions.specs.Lists.{is_empty}
use Rattle.definitions.specs.declared.frames.TurnFrame.{TurnFrame}
use Rattle.rosters.specs.declared.roster.Link.{Link}
use Rattle.socket_lines.specs.declared.line.Line.{Line}
use Rattle.socket_lines.specs.declared.seat.Seat.{Seat}
use Rattle.socket_lines.specs.Lines.{player_of, closed, blocked}
use Rattle.socket_lines.specs.Giving.{Speaker}
use Rattle.loop_rules.specs.Tables.{Table, line_of, seat_of, seat_by, at_line, desk_with}
use Rattle.loop_rules.specs.After.{gave_by}
use Rattle.loop_rules.specs.Licence.{has_due_at, has_due_on, is_served_out}
use Rattle.loop_rules.specs.Told.{DiffersBy, Differ}
use Rattle.socket_list.specs.Pairs.{Both}
use Rattle.socket_list.proofs.Pairs.{pairs_key, pair_at, found_both}
use Rattle.socket_table.proofs.Giving.{KeepsSeat, gave_lines, gave_keeps_seats}

-- the lines of other sockets stay
abbrev SameOther : (s : ℕ) → Line → Line → Type 0
SameOther s l m = (l.socket ≡ s → ⊥) → m ≡ l

-- ---- giving

-- a WANT, or an own frame from the cursor on, is due no more than before
named_before : (x : Bool) (due new : List ℕ) (y : Bool) → (is_empty due ≡ true → is_empty new ≡ true) → (x && (not (is_empty due) || y)) ≡ false → (x && (not (is_empty new) || y)) ≡ false
named_before false due new y k e = refl
named_before true due new y k e = go (is_empty due) refl e
  where
    go : (b : Bool) → is_empty due ≡ b → (not b || y) ≡ false → (not (is_empty new) || y) ≡ false
    go true w f = ap (λ (b : Bool). not b || y) (k w) ∙ f
    go false w f = absurd (false≢true (sym f))

due_before : (a b : Bool) (made : ℕ) (l : Line) (c d : Seat) → KeepsSeat c d →
    (a || b || (is_some l.name && (not (is_empty c.asks.due) || nat_lt l.cursor made))) ≡ false → (a || b || (is_some l.name && (not (is_empty d.asks.due) || nat_lt l.cursor made))) ≡ false
due_before false false made l c d k e = named_before (is_some l.name) c.asks.due d.asks.due (nat_lt l.cursor made) k.none_due e
due_before true b made l c d k e = absurd (false≢true (sym e))
due_before false true made l c d k e = absurd (false≢true (sym e))

seat_due : (made : ℕ) (l : Line) (o p : Option Seat) → Both KeepsSeat o p → has_due_at made (desk_with l o) ≡ false → has_due_at made (desk_with l p) ≡ false
seat_due made l None None b e = refl
seat_due made l None (Some d) b e = absurd b
seat_due made l (Some c) None b e = absurd b
seat_due made l (Some c) (Some d) b e = due_before (not (is_empty l.unsent)) (is_some l.hello) made l c d b e

player_due : (made : ℕ) (t u : Table) (l : Line) (p : Option ℕ) → Pairs KeepsSeat t.seats u.seats → has_due_at made (desk_with l (seat_by t p)) ≡ false → has_due_at made (desk_with l (seat_by u p)) ≡ false
player_due made t u l None k e = refl
player_due made t u l (Some q) k e =
    seat_due made l (seat_of t q) (seat_of u q) (found_both KeepsSeat (λ c. c.link.player) q (λ c d w. ap (λ (x : Link). x.player) w.link) t.seats u.seats k) e

served_before : (is_open blocked before behind : Bool) → (before ≡ false → behind ≡ false) → (not is_open || blocked || not before) ≡ true → (not is_open || blocked || not behind) ≡ true
served_before false blocked before behind k e = refl
served_before true true before behind k e = refl
served_before true false before behind k e = ap not (k (not-true before e))

-- a line that stays is served out as before
served_same : (made : ℕ) (t u : Table) (l : Line) → Pairs KeepsSeat t.seats u.seats → is_served_out made t l ≡ true → is_served_out made u l ≡ true
served_same made t u l k e = served_before l.is_open l.is_blocked (has_due_on made t l) (has_due_on made u l) (player_due made t u l (player_of l) k) e

pub gave_others : (k : Speaker) (safe : List TurnFrame) (count s made : ℕ) (t : Table) (i : ℕ) (l m : Line) → Differ t.lines → DiffersBy (λ c. c.link.player) t.seats → slice_get t.lines i ≡ Some l →
    slice_get (gave_by k safe count t (line_of t s)).lines i ≡ Some m → (l.socket ≡ s → ⊥) → is_served_out made t l ≡ true → is_served_out made (gave_by k safe count t (line_of t s)) m ≡ true
gave_others k safe count s made t i l m d e at behind other served =
    let u = gave_by k safe count t (line_of t s) in
    let lines = gave_lines (SameOther s) (λ x w. refl) k safe count s t (line_of t s) d refl (λ own c x w n. absurd (n w)) in
    let same : m ≡ l = pair_at (SameOther s) t.lines u.lines i l m lines at behind other in
    subst (λ (x : Line). is_served_out made u x ≡ true) (sym same) (served_same made t u l (gave_keeps_seats k safe count t (line_of t s) e) served)

-- ---- closing, and a refused write

line_others : (s : ℕ) (change : Line → Line) (made : ℕ) (t : Table) (i : ℕ) (l m : Line) → slice_get t.lines i ≡ Some l → slice_get (at_line s change t).lines i ≡ Some m → (l.socket ≡ s → ⊥) →
    is_served_out made t l ≡ true → is_served_out made (at_line s change t) m ≡ true
line_others s change made t i l m at behind other served =
    let u = at_line s change t in
    let lines = pairs_key (SameOther s) (λ x. x.socket) s change (λ x w. refl) (λ x w n. absurd (n w)) t.lines in
    let same : m ≡ l = pair_at (SameOther s) t.lines u.lines i l m lines at behind other in
    subst (λ (x : Line). is_served_out made u x ≡ true) (sym same) served

pub closed_others : (s made : ℕ) (t : Table) (i : ℕ) (l m : Line) → slice_get t.lines i ≡ Some l → slice_get (at_line s closed t).lines i ≡ Some m → (l.socket ≡ s → ⊥) →
    is_served_out made t l ≡ true → is_served_out made (at_line s closed t) m ≡ true
closed_others s made t i l m at behind other served = line_others s closed made t i l m at behind other served

pub blocked_others : (s made : ℕ) (t : Table) (i : ℕ) (l m : Line) → slice_get t.lines i ≡ Some l → slice_get (at_line s blocked t).lines i ≡ Some m → (l.socket ≡ s → ⊥) →
    is_served_out made t l ≡ true → is_served_out made (at_line s blocked t) m ≡ true
blocked_others s made t i l m at behind other served = line_others s blocked made t i l m at behind other served
