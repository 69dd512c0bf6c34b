-- Written: some bytes are given on a line, by the seat of its player.
use Rattle.std.proofs.lemmas.Option.{get_or_from_slice_get}
use Rattle.std.proofs.Common.{◌≡◌, ℕ, ◌+◌, ◌<◌, ◌^◌, Bool, true, false, refl, sym, ap, subst, ◌∙◌, List, arith, get_or, slice_set}
use Rattle.std.specs.Prelude.{Option, Some, None, drop, slice_get, if◌then◌else◌}
use Rattle.definitions.specs.Lists.{is_empty}
use Rattle.definitions.specs.declared.frames.TurnFrame.{TurnFrame}
use Rattle.rosters.specs.declared.roster.Link.{Link}
use Rattle.wire_frames.specs.Reading.{Reading}
use Rattle.socket_lines.specs.declared.giving.Due.{Due}
use Rattle.socket_lines.specs.declared.giving.Due.TheVariants as U
use Rattle.socket_lines.specs.declared.line.Line.{Line}
use Rattle.socket_lines.specs.declared.seat.Seat.{Seat}
use Rattle.socket_lines.specs.Lines.{player_of}
use Rattle.socket_lines.specs.Giving.{Desk, Speaker, IsPlace, due_on, due_bytes, marked, begun, ended_with, left_with, gave}
use Rattle.loop_rules.specs.Tables.{Table, in_lines, desk_of, with_desk}
use Rattle.loop_rules.specs.After.{gave_on, gave_with}
use Rattle.loop_rules.proofs.Alike.{Same, keeps_gave}
use Rattle.loop_rules.proofs.Given.{IsOwnDue, is_own_due}
use Rattle.socket_table.specs.Finding.{IsDeskSeat}
use Rattle.socket_table.specs.Sound.{IsFitLine, IsFitSeat, IsByte, IsSound, spent_of}
use Rattle.socket_list.proofs.Keys.{put_at}
use Rattle.socket_table.proofs.Giving.{keeps_giving}
use Rattle.socket_list.proofs.Lists.{each_at}
use Rattle.socket_table.proofs.Changed.{SameSeat, sound_line, sound_seat, line_seen}
use Rattle.socket_table.proofs.Asked.{desk_read}

-- ---- the place that goes out

sending_marked : (own : Option TurnFrame) (due : Due) (d : Desk) → IsOwnDue own due → ((f : TurnFrame) → own ≡ Some f → d.line.cursor + 1 < 2 ^ 32) → IsPlace d.line.sending → IsPlace (marked due d).line.sending
sending_marked own U.Nothing d w c p = p
sending_marked own (U.Hello next) d w c p = p
sending_marked own (U.Want place) d w c p = p
sending_marked own (U.Own f) d w c p = c f w

sending_begun : (own : Option TurnFrame) (d : Desk) → ((f : TurnFrame) → own ≡ Some f → d.line.cursor + 1 < 2 ^ 32) → IsPlace d.line.sending → IsPlace (begun own d).line.sending
sending_begun own d c p = go (is_empty d.line.unsent)
  where
    go : (b : Bool) → IsPlace (if b then marked (due_on own d) d else d).line.sending
    go true = sending_marked own (due_on own d) d (is_own_due own d) c p
    go false = p

sending_ended : (o : Option ℕ) (d : Desk) → d.line.sending ≡ o → IsPlace o → IsPlace (ended_with o d).line.sending
sending_ended None d e p = subst IsPlace (sym e) p
sending_ended (Some place) d e p = tt

sending_left : (left : List ℕ) (d : Desk) → IsPlace d.line.sending → IsPlace (left_with left d).line.sending
sending_left left d p = go (is_empty left)
  where
    e : Desk
    e = record d { line = record d.line { unsent = left } }

    go : (b : Bool) → IsPlace (if b then ended_with d.line.sending e else e).line.sending
    go true = sending_ended d.line.sending e refl p
    go false = p

pub gave_sends : (s : Speaker) (own : Option TurnFrame) (count : ℕ) (d : Desk) → ((f : TurnFrame) → own ≡ Some f → d.line.cursor + 1 < 2 ^ 32) → IsPlace d.line.sending → IsPlace (gave s own count d).line.sending
gave_sends s own count d c p = sending_left (drop count (due_bytes s own d)) (begun own d) (sending_begun own d c p)

-- ---- the table

seat_here : (t v : Table) (k : ℕ) (y c : Seat) → t ≡ v → y ≡ get_or t.seats k y → slice_get v.seats k ≡ Some c → slice_get t.seats k ≡ Some y
seat_here t v k y c e j g =
    let h : slice_get t.seats k ≡ Some c = ap (λ (u : Table). slice_get u.seats k) e ∙ g in
    h ∙ ap (λ (x : Seat). Some x) (sym (j ∙ get_or_from_slice_get t.seats k c y h))

both : (m : Line) (c : Seat) (d : Desk) → m ≡ d.line → c ≡ d.seat → record { line = m; seat = c } ≡ d
both m c d e f = ap (λ (x : Line). record { line = x; seat = c }) e ∙ ap (λ (y : Seat). record { line = d.line; seat = y }) f

fit_given : (cs : List Seat) (d : Desk) (nl : Line) (n : Line) → nl ≡ n → n.taken ≡ d.line.taken → n.reader ≡ d.line.reader → n.name ≡ d.line.name → IsPlace n.sending → nl.dialled ≡ d.line.dialled → IsFitLine cs d.line →
    IsFitLine cs (record nl { is_blocked = false })
fit_given cs d nl n e t r name p dialled f =
    let taken = ap (λ (l : Line). l.taken) e ∙ t in
    let read = ap (λ (l : Line). l.reader.place) e ∙ ap (λ (q : Reading). q.place) r in
    let spent = ap (λ (l : Line). spent_of cs l.name) e ∙ ap (spent_of cs) name in
    let old = f.taken in
    let far = f.read in
    record {
      taken = omega (arith, taken, old);
      read = omega (arith, taken, read, spent, far);
      sending = subst (λ (l : Line). IsPlace l.sending) (sym e) p;
      dialled = subst IsByte (sym dialled) f.dialled;
    }

-- the table after a write, by the line and the seat that were read and those that were put back
pub written : (t v : Table) (a b place k : ℕ) (s : Speaker) (own : Option TurnFrame) (count : ℕ) (x l : Line) (y : Seat) (nl : Line) (ns : Seat) (o : Option ℕ) → t ≡ v → IsSound t a b →
    x ≡ get_or t.lines place x → slice_get v.lines place ≡ Some l → y ≡ get_or t.seats k y → IsDeskSeat v (player_of l) o → o ≡ Some k →
    ((f : TurnFrame) → own ≡ Some f → l.cursor + 1 < 2 ^ 32) → record { line = nl; seat = ns } ≡ gave s own count (record { line = x; seat = y }) →
    IsSound (record t { lines = slice_set t.lines place (record nl { is_blocked = false }); seats = slice_set t.seats k ns }) a b ×
    (record t { lines = slice_set t.lines place (record nl { is_blocked = false }); seats = slice_set t.seats k ns } ≡ gave_with s own count v (desk_of v l))
written t v a b place k s own count x l y nl ns o e w i g j at is cursor made =
    let d : Desk = record { line = x; seat = y } in
    let after = gave_on s own count d in
    let m : Line = record nl { is_blocked = false } in
    let line : m ≡ after.line = ap (λ (f : Desk). record f.line { is_blocked = false }) made in
    let seat : ns ≡ after.seat = ap (λ (f : Desk). f.seat) made in
    let it : x ≡ l = line_seen t v place x l e i g in
    let here : slice_get t.lines place ≡ Some x = ap (λ (u : Table). slice_get u.lines place) e ∙ g ∙ ap (λ (z : Line). Some z) (sym it) in
    let found = subst (IsDeskSeat v (player_of l)) is at in
    let there : slice_get t.seats k ≡ Some y = seat_here t v k y found.0 e j found.1 in
    let kept = keeps_giving s own count d in
    let socket = keeps_gave s own count d in
    let same : Same x m = record {
      socket = ap (λ (z : Line). z.socket) line ∙ socket.0;
      opened = λ z. sym socket.1 ∙ sym (ap (λ (q : Line). q.is_open) line) ∙ z;
      dialled = ap (λ (z : Line). z.dialled) line ∙ socket.2;
      wrong = λ z. ap (λ (q : Line). q.is_wrong) line ∙ socket.3 ∙ z;
    } in
    let fit = each_at (IsFitLine t.seats) t.lines place x w.lines here in
    let fits : IsFitLine t.seats m = fit_given t.seats d nl (gave s own count d).line (ap (λ (f : Desk). f.line) made) kept.line.taken kept.line.reader kept.line.name
    (gave_sends s own count d (λ f q. subst (λ (z : Line). z.cursor + 1 < 2 ^ 32) (sym it) (cursor f q)) fit.sending) same.dialled fit in
    let same_seat : SameSeat y ns = record {
      link = ap (λ (c : Seat). c.link) seat ∙ kept.seat.link;
      spent = (let z = ap (λ (c : Seat). c.spent) seat in let n = kept.seat.spent in omega (arith, z, n));
      dialled = ap (λ (c : Seat). c.is_dialled) seat ∙ kept.seat.dialled;
    } in
    let few : IsFitSeat ns = (let old = each_at IsFitSeat t.seats k y w.seats there in let z = ap (λ (c : Seat). c.spent) seat in let n = kept.seat.spent in omega (arith, old, z, n)) in
    let one = sound_line t a b place x m here same fits w in
    let lines = put_at (λ (z : Line). z.socket) m.socket (λ _. m) t.lines place x w.sockets here (sym same.socket) in
    let seats = put_at (λ (c : Seat). c.link.player) ns.link.player (λ _. ns) t.seats k y w.players there (sym (ap (λ (q : Link). q.player) same_seat.link)) in (
      sound_seat (record t { lines = slice_set t.lines place m }) a b k y ns there same_seat few one,
      ap (λ (ls : List Line). record t { lines = ls; seats = slice_set t.seats k ns }) lines
          ∙ ap (λ (cs : List Seat). record t { lines = in_lines m.socket (λ _. m) t.lines; seats = cs }) seats
          ∙ ap (λ (u : Table). with_desk u (record { line = m; seat = ns })) e
          ∙ ap (with_desk v) (both m ns after line seat)
          ∙ sym (ap (gave_with s own count v) (desk_read t v place k x l y o e i g j at is)),
    )
