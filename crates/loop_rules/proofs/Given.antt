-- Given: bytes that are given are due, and are the first ones of what is left of a frame or of a frame.
use Rattle.std.proofs.Common.{◌≡◌, inl, inr, ℕ, zero, suc, true, refl, sym, ap, ◌∙◌, List, [], ◌∷◌}
use Rattle.std.specs.Prelude.{Option, Some, None, nat_lt, length, take, slice_get, if◌then◌else◌, IsTrue}
use Rattle.std.proofs.lemmas.Bool.{and_parts, false≢true}
use Rattle.std.proofs.lemmas.Slice.Eq.{bytes_eq-Decides}
use Rattle.definitions.specs.Lists.{is_empty}
use Rattle.socket_lines.specs.Lines.{player_of}
use Rattle.definitions.specs.declared.frames.TurnFrame.{TurnFrame}
use Rattle.socket_station.specs.Items.{Gave}
use Rattle.socket_lines.specs.declared.giving.Due.{Due}
use Rattle.socket_lines.specs.declared.giving.Due.TheVariants as U
use Rattle.socket_lines.specs.declared.line.Line.{Line}
use Rattle.socket_lines.specs.declared.seat.Seat.{Seat}
use Rattle.socket_lines.specs.Giving.{Desk, Speaker, own_due, want_or_own, named_due, hello_or, due_on, frame_of, frame_due, spelled}
use Rattle.loop_rules.specs.Settings.{speaker_of}
use Rattle.loop_rules.specs.Tables.{line_of, seat_by, desk_with}
use Rattle.loop_rules.specs.Views.{View, safe_frames}
use Rattle.loop_rules.specs.After.{own_at, view_of}
use Rattle.loop_rules.specs.Rules.{due_at, due_of, is_front, are_due}
use Rattle.loop_rules.specs.Laws.{BeginsFrame, GoesOn, GivenIsDue}
use Rattle.loop_rules.proofs.Prefixes.{items_are_allowed}

-- an own frame that is due is the one at the cursor
abbrev pub IsOwnDue : (own : Option TurnFrame) → Due → Type 0
IsOwnDue own U.Nothing = Unit {0}
IsOwnDue own (U.Hello next) = Unit {0}
IsOwnDue own (U.Want place) = Unit {0}
IsOwnDue own (U.Own f) = own ≡ Some f

own_is_due : (own : Option TurnFrame) → IsOwnDue own (own_due own)
own_is_due None = tt
own_is_due (Some f) = refl

want_is_due : (o : Option ℕ) (own : Option TurnFrame) → IsOwnDue own (want_or_own o own)
want_is_due None own = own_is_due own
want_is_due (Some place) own = tt

named_is_due : (name : Option ℕ) (own : Option TurnFrame) (due : Due) → IsOwnDue own due → IsOwnDue own (named_due name due)
named_is_due None own due w = tt
named_is_due (Some q) own due w = w

hello_is_due : (o : Option ℕ) (own : Option TurnFrame) (due : Due) → IsOwnDue own due → IsOwnDue own (hello_or o due)
hello_is_due None own due w = w
hello_is_due (Some next) own due w = tt

pub is_own_due : (own : Option TurnFrame) (d : Desk) → IsOwnDue own (due_on own d)
is_own_due own d =
    let due = want_or_own (slice_get d.seat.asks.due 0) own in
    hello_is_due d.line.hello own (named_due d.line.name due) (named_is_due d.line.name own due (want_is_due (slice_get d.seat.asks.due 0) own))

take_none : (n : ℕ) → take {A = ℕ} n [] ≡ []
take_none zero = refl
take_none (suc n) = refl

no_front : (bytes : List ℕ) → is_front bytes [] ≡ true → ⊥
no_front bytes h =
    let p = and_parts _ _ h in
    let none : bytes ≡ [] = (bytes_eq-Decides bytes (take (length bytes) [])).0 p.1 ∙ take_none (length bytes) in
    false≢true (ap (λ (x : List ℕ). nat_lt 0 (length x)) (sym none) ∙ p.0)

begins : (safe : List TurnFrame) (s : Speaker) (shows bytes : List ℕ) (own : Option TurnFrame) (place : ℕ) (due : Due) → slice_get safe place ≡ own → IsOwnDue own due →
    is_front bytes (spelled (frame_of s shows due)) ≡ true → BeginsFrame safe bytes
begins safe s shows bytes own place U.Nothing at w h = absurd (no_front bytes h)
begins safe s shows bytes own place (U.Hello next) at w h = (_, tt, h)
begins safe s shows bytes own place (U.Want p) at w h = (_, tt, h)
begins safe s shows bytes own place (U.Own f) at w h = (_, (place, at ∙ w), h)

goes_desk : (v : View) (l : Line) (bytes : List ℕ) (o : Option Seat) → is_front bytes (due_at (speaker_of v.setting) (own_at (safe_frames v) l) (desk_with l o)) ≡ true →
    GoesOn (safe_frames v) l bytes
goes_desk v l bytes None h = absurd (no_front bytes h)
goes_desk v l bytes (Some c) h = go l.unsent h refl
  where
    safe : List TurnFrame
    safe = safe_frames v

    who : Speaker
    who = speaker_of v.setting

    desk : Desk
    desk = record { line = l; seat = c }

    go : (unsent : List ℕ) → is_front bytes (if is_empty unsent then spelled (frame_due who (own_at safe l) desk) else unsent) ≡ true → l.unsent ≡ unsent → GoesOn safe l bytes
    go [] f e = inr (e, begins safe who c.link.shows bytes (own_at safe l) l.cursor (due_on (own_at safe l) desk) refl (is_own_due (own_at safe l) desk) f)
    go (b ∷ rest) f e = inl (ap (is_front bytes) e ∙ f)

due_line : (v : View) (bytes : List ℕ) (o : Option Line) → are_due v bytes o ≡ true → (l : Line) × (o ≡ Some l) × IsTrue (is_front bytes (due_of v l)) × GoesOn (safe_frames v) l bytes
due_line v bytes None h = absurd (cc)
due_line v bytes (Some l) h = (l, refl, h, goes_desk v l bytes (seat_by v.table (player_of l)) h)

pub given_is_due : GivenIsDue
given_is_due s items more socket bytes h =
    let v = view_of s items in
    due_line v bytes (line_of v.table socket) (and_parts _ _ (items_are_allowed s items more (Gave socket bytes) h)).1
