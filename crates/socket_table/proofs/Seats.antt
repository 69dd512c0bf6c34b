-- Seats: what bytes that come, a place asked for, and bytes that are given leave of each seat as it was.
use Rattle.std.proofs.Common.{◌≡◌, ℕ, Bool, true, false, refl, ap, ◌∙◌, List}
use Rattle.std.specs.Prelude.{not, if◌then◌else◌}
use Rattle.std.specs.List.{count_by}
use Rattle.plain_lemmas.proofs.Pairs.{pairs_same, pairs_then, pairs_each}
use Rattle.definitions.specs.Lists.{EachIs}
use Rattle.definitions.specs.declared.frames.TurnFrame.{TurnFrame}
use Rattle.socket_lines.specs.declared.seat.Seat.{Seat}
use Rattle.socket_lines.specs.Asks.{is_asked}
use Rattle.socket_lines.specs.Seats.{asks, is_asked_for}
use Rattle.socket_lines.specs.Giving.{Speaker}
use Rattle.loop_rules.specs.Tables.{Table, line_of, at_seat}
use Rattle.loop_rules.specs.Hearing.{Hearer, took_on}
use Rattle.loop_rules.specs.After.{gave_by}
use Rattle.loop_rules.specs.Told.{DiffersBy}
use Rattle.socket_table.specs.Staying.{SameSeat, SeatsSame}
use Rattle.socket_list.proofs.Pairs.{pairs_weaker, pairs_count}
use Rattle.socket_table.proofs.HearingKeeps.{LetsSeat, seats_at, seats_took}
use Rattle.socket_table.proofs.Giving.{KeepsSeat, gave_keeps_seats}

same_seat : (c : Seat) → SameSeat c c
same_seat c = record { link = refl; most = refl; dialled = refl }

same_seat_then : (b c d : Seat) → SameSeat b c → SameSeat c d → SameSeat b d
same_seat_then b c d x y = record { link = y.link ∙ x.link; most = y.most ∙ x.most; dialled = y.dialled ∙ x.dialled }

pub seats_same : (cs : List Seat) → SeatsSame cs cs
seats_same cs = pairs_same SameSeat same_seat cs

pub seats_then : (bs cs ds : List Seat) → SeatsSame bs cs → SeatsSame cs ds → SeatsSame bs ds
seats_then bs cs ds x y = pairs_then SameSeat same_seat_then bs cs ds x y

-- ---- what follows

pub same_each : (P : Seat → Type 0) → ((c d : Seat) → SameSeat c d → P c → P d) → (cs ds : List Seat) → SeatsSame cs ds → EachIs P cs → EachIs P ds
same_each P k cs ds s e = pairs_each SameSeat P k cs ds s e

pub same_undialled : (cs ds : List Seat) → SeatsSame cs ds → count_by (λ c. not c.is_dialled) ds ≡ count_by (λ c. not c.is_dialled) cs
same_undialled cs ds s = pairs_count SameSeat (λ c. not c.is_dialled) (λ c d k. ap not k.dialled) cs ds s

-- ---- how it comes about

pub hearing_same : LetsSeat SameSeat
hearing_same = record {
  stays = same_seat;
  goes_on = same_seat_then;
  named_by = λ taken from c. record { link = refl; most = refl; dialled = refl };
  obeyed_of = λ c. record { link = refl; most = refl; dialled = refl };
  reached = λ place c. record { link = refl; most = refl; dialled = refl };
  spent = λ count c. record { link = refl; most = refl; dialled = refl };
}

pub took_seats : (h : Hearer) (s : ℕ) (bytes : List ℕ) (t : Table) → SeatsSame t.seats (took_on h s bytes t).seats
took_seats h s bytes t = seats_took SameSeat hearing_same h t s bytes (line_of t s)

asks_same : (next : ℕ) (c : Seat) → SameSeat c (asks next c)
asks_same next c = go (is_asked c.asks next)
  where
    go : (b : Bool) → SameSeat c (if b then c else is_asked_for next c)
    go true = same_seat c
    go false = record { link = refl; most = refl; dialled = refl }

pub asked_seats : (q next : ℕ) (t : Table) → SeatsSame t.seats (at_seat q (asks next) t).seats
asked_seats q next t = seats_at SameSeat same_seat q (asks next) (asks_same next) t

pub gave_seats : (k : Speaker) (safe : List TurnFrame) (count s : ℕ) (t : Table) → DiffersBy (λ c. c.link.player) t.seats → SeatsSame t.seats (gave_by k safe count t (line_of t s)).seats
gave_seats k safe count s t d =
    pairs_weaker KeepsSeat SameSeat (λ c d k. record { link = k.link; most = k.most; dialled = k.dialled }) t.seats (gave_by k safe count t (line_of t s)).seats
    (gave_keeps_seats k safe count t (line_of t s) d)
