-- Serving: sockets are shut and written.
use Rattle.std.proofs.Common.{◌≡◌, ℕ, ◌+◌, ◌<◌, ◌≤◌, Bool, true, false, refl, sym, ap, subst, ◌∙◌, List, [], ◌∷◌, ◌++◌, arith, length}
use Rattle.std.specs.Prelude.{Some, ◌&&◌, ◌==◌, not, take, slice_get, if◌then◌else◌}
use Rattle.std.proofs.lemmas.Bool.{and_from, and_parts, eq-eqb, eqb-true, false_from_ne_true, false≢true, lt-ltb}
use Rattle.std.proofs.lemmas.List.{length-take-le, length-drop}
use Rattle.std.specs.Str.{bytes_eq}
use Rattle.std.proofs.lemmas.Slice.Eq.{bytes_eq-Decides}
use Rattle.definitions.specs.Lists.{is_empty}
use Rattle.socket_station.specs.declared.answers.SocketWrite.{SocketWrite}
use Rattle.socket_station.specs.declared.answers.SocketWrite.TheVariants as W
use Rattle.socket_station.specs.Items.{Item, Shut, write_item}
use Rattle.socket_station.specs.Standings.{OpensNew}
use Rattle.socket_station.specs.Withins.{GivesWithin}
use Rattle.socket_lines.specs.declared.line.Line.{Line}
use Rattle.socket_lines.specs.Lines.{blocked, closed}
use Rattle.loop_rules.specs.Told.{Differ}
use Rattle.loop_rules.proofs.Alike.{Alike, Same, alike, alike_at, alike_then, blocked_same, closed_same}
use Rattle.socket_list.specs.Sockets.{IsAt, gave_line, line_of}
use Rattle.watch_rules.specs.Views.{View}
use Rattle.watch_rules.specs.After as A
use Rattle.watch_rules.specs.After.{on_line}
use Rattle.watch_rules.specs.Licence.{asks_shut, is_running}
use Rattle.watch_rules.specs.Rules.{are_due, is_allowed, may_shut_line, may_write_line, wants_read, wants_write}
use Rattle.watch_rules.proofs.Told.{gave_same}
use Rattle.live_logger.specs.States.{WatchState, IsWatching, with_view}
use Rattle.live_logger.specs.Going.{poll_count}
use Rattle.live_logger.specs.Serving.{AsksNone, AsksNoMore, NoneAsks, NoneWrites, Serves, ShutsAll, ShutsAt, NoMoreWrites, Writes, WritesAll, WritesNone, WritesOut, work_at, work_by}
use Rattle.log_books.proofs.Lists.{same_get}
use Rattle.live_logger.proofs.Places.{alike_back, at_alike, at_beside, at_found, at_here}
use Rattle.live_logger.proofs.Going.{goes_one, goes_still, goes_then}

-- ---- what stays

-- a change of a line by which it is not to be read or shut where it wasn't
abbrev pub AsksNoMoreBy : (Line → Line) → Type 0
AsksNoMoreBy f = (v : View) (l : Line) → (wants_read v (f l) ≡ true → wants_read v l ≡ true) × (asks_shut v (f l) ≡ true → asks_shut v l ≡ true)

closed_asks_no_more : AsksNoMoreBy closed
closed_asks_no_more v l = (λ e. absurd (false≢true e), λ e. absurd (false≢true e))

blocked_asks_no_more : AsksNoMoreBy blocked
blocked_asks_no_more v l = (λ e. e, λ e. e)

gave_asks_no_more : (count : ℕ) → AsksNoMoreBy (gave_line count)
gave_asks_no_more count v l = (λ e. e, λ e. e)

asks_no_more_line : (k s : ℕ) (f : Line → Line) (v : View) (at : IsAt v.sockets k s) → AsksNoMoreBy f → Differ v.sockets.lines → AsksNoMore v (on_line s f v)
asks_no_more_line k s f v at none_more d j x y g h = go (j == k) refl
  where
    go : (b : Bool) → (j == k) ≡ b → (wants_read (on_line s f v) y ≡ true → wants_read v x ≡ true) × (asks_shut (on_line s f v) y ≡ true → asks_shut v x ≡ true)
    go true e =
        let same : j ≡ k = eqb-true j k e in
        let is_x : x ≡ at.0 = same_get (slice_get v.sockets.lines k) x at.0 (subst (λ (i : ℕ). slice_get v.sockets.lines i ≡ Some x) same g) at.1 in
        let is_y : y ≡ f at.0 = same_get (slice_get (on_line s f v).sockets.lines k) y (f at.0) (subst (λ (i : ℕ). slice_get (on_line s f v).sockets.lines i ≡ Some y) same h) (at_here v.sockets k s f at d) in
        let m = none_more v at.0 in (
          λ w. subst (λ (z : Line). wants_read v z ≡ true) (sym is_x) (m.0 (subst (λ (z : Line). wants_read v z ≡ true) is_y w)),
          λ w. subst (λ (z : Line). asks_shut v z ≡ true) (sym is_x) (m.1 (subst (λ (z : Line). asks_shut v z ≡ true) is_y w)),
        )
    go false e =
        let other : j ≡ k → ⊥ = λ n. false≢true (sym e ∙ eq-eqb j k n) in
        let is : y ≡ x = same_get (slice_get v.sockets.lines j) y x (sym (at_beside v.sockets k s j f at d other) ∙ h) g in
        (λ w. subst (λ (z : Line). wants_read v z ≡ true) is w, λ w. subst (λ (z : Line). asks_shut v z ≡ true) is w)

no_more_line : (k s : ℕ) (f : Line → Line) (v : View) (at : IsAt v.sockets k s) → Differ v.sockets.lines → NoMoreWrites k v (on_line s f v)
no_more_line k s f v at d j x y g h n e =
    let is : y ≡ x = same_get (slice_get v.sockets.lines j) y x (sym (at_beside v.sockets k s j f at d n) ∙ h) g in
    subst (λ (z : Line). wants_write v z ≡ true) is e

pub serves_still : (items : List Item) (w : WatchState) → IsWatching items w → Serves items items w w
serves_still items w ready = record {
  goes = goes_still items w ready;
  alike = alike w.view.sockets.lines;
  streams = refl;
  asks = λ j x y g h.
      let is : y ≡ x = same_get (slice_get w.view.sockets.lines j) y x h g in
      (λ e. subst (λ (z : Line). wants_read w.view z ≡ true) is e, λ e. subst (λ (z : Line). asks_shut w.view z ≡ true) is e);
}

asks_no_more_then : (u v w : View) → Alike v.sockets.lines w.sockets.lines → AsksNoMore u v → AsksNoMore v w → AsksNoMore u w
asks_no_more_then u v w a m n j x z g h =
    let y = alike_back v.sockets.lines w.sockets.lines j z a h in
    let one = m j x y.0 g y.1 in
    let two = n j y.0 z y.1 h in
    (λ e. one.0 (two.0 e), λ e. one.1 (two.1 e))

pub serves_then : (a b c : List Item) (w m n : WatchState) → Serves a b w m → Serves b c m n → Serves a c w n
serves_then a b c w m n r o = record {
  goes = goes_then a b c w m n r.goes o.goes;
  alike = alike_then w.view.sockets.lines m.view.sockets.lines n.view.sockets.lines r.alike o.alike;
  streams = o.streams ∙ r.streams;
  asks = asks_no_more_then w.view m.view n.view o.alike r.asks o.asks;
}

-- one line changes by an item that is allowed
serves_line : (before after : List Item) (item : Item) (w : WatchState) (k s : ℕ) (f : Line → Line) (at : IsAt w.view.sockets k s) → IsWatching before w → OpensNew before item → is_allowed w.view item ≡ true → poll_count item ≡ 0 → after ≡ before ++ item ∷ [] →
    on_line s f w.view ≡ A.after w.view item → ((l : Line) → Same l (f l)) → AsksNoMoreBy f → Serves before after w (with_view (on_line s f w.view) w)
serves_line before after item w k s f at ready new may none on is alike_f none_more = record {
  goes = goes_one before after item w (with_view (on_line s f w.view) w) ready new may none on (ap (λ (v : View). with_view v w) is) (ap (λ (v : View). v.phase) (sym is) ∙ ready.running);
  alike = alike_at s f alike_f w.view.sockets.lines;
  streams = refl;
  asks = asks_no_more_line k s f w.view at none_more ready.told.differ;
}

-- ---- shutting

pub asks_open : (v : View) (l : Line) → asks_shut v l ≡ true → l.is_open ≡ true
asks_open v l e = (and_parts _ _ e).0

pub shut_so : (before after : List Item) (w m : WatchState) (k s : ℕ) (at : IsAt w.view.sockets k s) → IsWatching before w → asks_shut w.view at.0 ≡ true → after ≡ before ++ Shut s ∷ [] → m ≡ with_view (on_line s closed w.view) w → ShutsAt k before after w m
shut_so before after w m k s at ready asks on state = subst (λ (x : WatchState). ShutsAt k before after w x) (sym state) (record {
  serves = serves_line before after (Shut s) w k s closed at ready tt
      (ap (may_shut_line w.view) (at_found w.view.sockets k s at ready.told.differ) ∙ and_from _ _ (ap is_running ready.running) asks) refl on refl closed_same closed_asks_no_more;
  out = λ l g.
      let is : l ≡ closed at.0 = same_get (slice_get (on_line s closed w.view).sockets.lines k) l (closed at.0) g (at_here w.view.sockets k s closed at ready.told.differ) in
      ap (asks_shut (on_line s closed w.view)) is;
})

pub shut_not : (items : List Item) (w : WatchState) (k : ℕ) → IsWatching items w → AsksNone w.view k → ShutsAt k items items w w
shut_not items w k ready none = record { serves = serves_still items w ready; out = none }

pub shuts_first : (items : List Item) (w : WatchState) → IsWatching items w → ShutsAll 0 items items w w
shuts_first items w ready = record { serves = serves_still items w ready; none = λ j l lt g. absurd (omega (arith, lt)) }

below_one : (j k : ℕ) → j < k + 1 → (j ≡ k → ⊥) → j < k
below_one j k lt n = omega (arith, lt, n)

pub shuts_on : (k : ℕ) (before items after : List Item) (w m n : WatchState) → ShutsAll k before items w m → ShutsAt k items after m n → ShutsAll (k + 1) before after w n
shuts_on k before items after w m n r o = record { serves = serves_then before items after w m n r.serves o.serves; none = none }
  where
    none : NoneAsks (k + 1) n.view
    none j l lt g = go (j == k) refl
      where
        go : (b : Bool) → (j == k) ≡ b → asks_shut n.view l ≡ false
        go true e = let same : j ≡ k = eqb-true j k e in o.out l (subst (λ (i : ℕ). slice_get n.view.sockets.lines i ≡ Some l) same g)
        go false e = false_from_ne_true (asks_shut n.view l) (λ asks.
            let old = alike_back m.view.sockets.lines n.view.sockets.lines j l o.serves.alike g in
            let was = (o.serves.asks j old.0 l old.1 g).1 asks in
            false≢true (sym (r.none j old.0 (below_one j k lt (λ x. false≢true (sym e ∙ eq-eqb j k x))) old.1) ∙ was))

pub shuts_end : (k : ℕ) (before items : List Item) (w m : WatchState) → ShutsAll k before items w m → length m.view.sockets.lines ≤ k → ShutsAll (length m.view.sockets.lines) before items w m
shuts_end k before items w m r le = record { serves = r.serves; none = λ j l lt g. r.none j l (omega (arith, lt, le)) g }

-- ---- writing

pub writes_open : (v : View) (l : Line) → wants_write v l ≡ true → l.is_open ≡ true
writes_open v l e = (and_parts _ _ (and_parts _ _ (and_parts _ _ e).0).0).0

some_of : {X : Type 0} (xs : List X) → not (is_empty xs) ≡ true → 0 < length xs
some_of [] e = absurd (false≢true e)
some_of (x ∷ xs) e = omega arith

pub writes_some : (v : View) (l : Line) → wants_write v l ≡ true → 0 < length l.unsent
writes_some v l e = some_of l.unsent (and_parts _ _ e).1

-- the change of the line by what a write answered
abbrev pub wrote_line : SocketWrite → Line → Line
wrote_line (W.Gave count) = gave_line count
wrote_line W.NotYet = blocked
wrote_line W.Failed = closed

wrote_same : (r : SocketWrite) (l : Line) → Same l (wrote_line r l)
wrote_same (W.Gave n) l = gave_same n l
wrote_same W.NotYet l = blocked_same l
wrote_same W.Failed l = closed_same l

wrote_asks_no_more : (r : SocketWrite) → AsksNoMoreBy (wrote_line r)
wrote_asks_no_more (W.Gave n) = gave_asks_no_more n
wrote_asks_no_more W.NotYet = blocked_asks_no_more
wrote_asks_no_more W.Failed = closed_asks_no_more

wrote_opens : (items : List Item) (s : ℕ) (r : SocketWrite) (bytes : List ℕ) → OpensNew items (write_item s r bytes)
wrote_opens items s (W.Gave n) bytes = tt
wrote_opens items s W.NotYet bytes = tt
wrote_opens items s W.Failed bytes = tt

wrote_polls : (s : ℕ) (r : SocketWrite) (bytes : List ℕ) → poll_count (write_item s r bytes) ≡ 0
wrote_polls s (W.Gave n) bytes = refl
wrote_polls s W.NotYet bytes = refl
wrote_polls s W.Failed bytes = refl

wrote_is : (v : View) (s : ℕ) (r : SocketWrite) (bytes : List ℕ) → GivesWithin r bytes → on_line s (wrote_line r) v ≡ A.after v (write_item s r bytes)
wrote_is v s (W.Gave n) bytes g = ap (λ (k : ℕ). on_line s (gave_line k) v) (sym (length-take-le n bytes g.1))
wrote_is v s W.NotYet bytes g = refl
wrote_is v s W.Failed bytes g = refl

wrote_may : (items : List Item) (w : WatchState) (k s : ℕ) (at : IsAt w.view.sockets k s) (r : SocketWrite) → IsWatching items w → wants_write w.view at.0 ≡ true → GivesWithin r (at.0).unsent → is_allowed w.view (write_item s r (at.0).unsent) ≡ true
wrote_may items w k s at r ready wants within = go r within
  where
    found : line_of w.view.sockets s ≡ Some at.0
    found = at_found w.view.sockets k s at ready.told.differ

    may : may_write_line w.view (line_of w.view.sockets s) ≡ true
    may = ap (may_write_line w.view) found ∙ and_from _ _ (ap is_running ready.running) wants

    front : (n : ℕ) → (0 < n) × (n ≤ length (at.0).unsent) → are_due (take n (at.0).unsent) (Some at.0) ≡ true
    front n t =
        let long : length (take n (at.0).unsent) ≡ n = length-take-le n (at.0).unsent t.1 in
        and_from _ _ (lt-ltb 0 (length (take n (at.0).unsent)) (let a = t.0 in omega (arith, long, a)))
        (ap (λ (j : ℕ). bytes_eq (take n (at.0).unsent) (take j (at.0).unsent)) long ∙ (bytes_eq-Decides (take n (at.0).unsent) (take n (at.0).unsent)).1 refl)

    go : (x : SocketWrite) → GivesWithin x (at.0).unsent → is_allowed w.view (write_item s x (at.0).unsent) ≡ true
    go (W.Gave n) t = and_from _ _ may (ap (are_due (take n (at.0).unsent)) found ∙ front n t)
    go W.NotYet t = may
    go W.Failed t = may

work_none : (k s : ℕ) (f : Line → Line) (v : View) (at : IsAt v.sockets k s) → Differ v.sockets.lines → wants_write v (f at.0) ≡ false → work_at k (on_line s f v) ≡ 0
work_none k s f v at d none = ap (work_by (on_line s f v)) (at_here v.sockets k s f at d) ∙ ap (λ (b : Bool). if b then length (f at.0).unsent + 1 else 0) none

work_is : (k s : ℕ) (v : View) (at : IsAt v.sockets k s) → wants_write v at.0 ≡ true → work_at k v ≡ length (at.0).unsent + 1
work_is k s v at wants = ap (work_by v) at.1 ∙ ap (λ (b : Bool). if b then length (at.0).unsent + 1 else 0) wants

work_most : (v : View) (l : Line) → work_by v (Some l) ≤ length l.unsent + 1
work_most v l = go (wants_write v l)
  where
    go : (b : Bool) → (if b then length l.unsent + 1 else 0) ≤ length l.unsent + 1
    go true = omega arith
    go false = omega arith

blocked_none : (v : View) (l : Line) → wants_write v (blocked l) ≡ false
blocked_none v l = go l.is_open (asks_shut v (blocked l)) (is_empty l.unsent)
  where
    go : (o a u : Bool) → (o && not a && not true && not u) ≡ false
    go true true u = refl
    go true false u = refl
    go false a u = refl

pub write_so : (before after : List Item) (w m : WatchState) (k s : ℕ) (at : IsAt w.view.sockets k s) (r : SocketWrite) (bytes : List ℕ) → IsWatching before w → wants_write w.view at.0 ≡ true → bytes ≡ (at.0).unsent → GivesWithin r bytes →
    after ≡ before ++ write_item s r bytes ∷ [] → m ≡ with_view (on_line s (wrote_line r) w.view) w → Writes k before after w m
write_so before after w m k s at r bytes ready wants due within on state = subst (λ (x : WatchState). Writes k before after w x) (sym state) (record {
  serves = serves_line before after (write_item s r bytes) w k s (wrote_line r) at ready (wrote_opens before s r bytes)
      (subst (λ (b : List ℕ). is_allowed w.view (write_item s r b) ≡ true) (sym due) (wrote_may before w k s at r ready wants (subst (GivesWithin r) due within)))
      (wrote_polls s r bytes) on (wrote_is w.view s r bytes within) (wrote_same r) (wrote_asks_no_more r);
  no_more = no_more_line k s (wrote_line r) w.view at ready.told.differ;
  less = less r within;
})
  where
    nothing : (n : ℕ) → n ≡ 0 → n < work_at k w.view
    nothing n z = (let e = work_is k s w.view at wants in omega (arith, z, e))

    less : (x : SocketWrite) → GivesWithin x bytes → work_at k (on_line s (wrote_line x) w.view) < work_at k w.view
    less (W.Gave n) t =
        let e = work_is k s w.view at wants in
        let u : View = on_line s (gave_line n) w.view in
        let f = ap (work_by u) (at_here w.view.sockets k s (gave_line n) at ready.told.differ) in
        let most = work_most u (gave_line n at.0) in
        let left = length-drop n (at.0).unsent in
        let long = ap (λ (b : List ℕ). length b) due in
        let a = t.0 in
        let b = t.1 in
        omega (arith, e, f, most, left, long, a, b)
    less W.NotYet t = nothing _ (work_none k s blocked w.view at ready.told.differ (blocked_none w.view at.0))
    less W.Failed t = nothing _ (work_none k s closed w.view at ready.told.differ refl)

-- ---- a socket is written out

pub record WritingOut (k s : ℕ) (before items : List Item) (w m : WatchState) : Type 0 where
  pub serves : Serves before items w m
  pub no_more : NoMoreWrites k w.view m.view
  pub at : IsAt m.view.sockets k s

no_more_same : (k : ℕ) (v : View) → NoMoreWrites k v v
no_more_same k v j x y g h n e = let s : y ≡ x = same_get (slice_get v.sockets.lines j) y x h g in subst (λ (z : Line). wants_write v z ≡ true) s e

no_more_then : (k : ℕ) (u v w : View) → Alike v.sockets.lines w.sockets.lines → NoMoreWrites k u v → NoMoreWrites k v w → NoMoreWrites k u w
no_more_then k u v w a c d j x z g h n e =
    let m = alike_back v.sockets.lines w.sockets.lines j z a h in
    c j x m.0 g m.1 n (d j m.0 z m.1 h n e)

pub write_first : (k s : ℕ) (items : List Item) (w : WatchState) → IsWatching items w → IsAt w.view.sockets k s → WritingOut k s items items w w
write_first k s items w ready at = record { serves = serves_still items w ready; no_more = no_more_same k w.view; at = at }

pub write_on : (k s : ℕ) (before items after : List Item) (w m n : WatchState) → WritingOut k s before items w m → Writes k items after m n → WritingOut k s before after w n
write_on k s before items after w m n r o = record {
  serves = serves_then before items after w m n r.serves o.serves;
  no_more = no_more_then k w.view m.view n.view o.serves.alike r.no_more o.no_more;
  at = at_alike m.view.sockets n.view.sockets k s o.serves.alike r.at;
}

pub write_ends : (k s : ℕ) (before items : List Item) (w m : WatchState) → WritingOut k s before items w m → WritesNone m.view k → WritesOut k before items w m
write_ends k s before items w m r none = record { serves = r.serves; no_more = r.no_more; out = none }

pub writes_first : (items : List Item) (w : WatchState) → IsWatching items w → WritesAll 0 items items w w
writes_first items w ready = record { serves = serves_still items w ready; none = λ j l lt g. absurd (omega (arith, lt)) }

pub writes_on : (k : ℕ) (before items after : List Item) (w m n : WatchState) → WritesAll k before items w m → WritesOut k items after m n → WritesAll (k + 1) before after w n
writes_on k before items after w m n r o = record { serves = serves_then before items after w m n r.serves o.serves; none = none }
  where
    none : NoneWrites (k + 1) n.view
    none j l lt g = go (j == k) refl
      where
        go : (b : Bool) → (j == k) ≡ b → wants_write n.view l ≡ false
        go true e = let same : j ≡ k = eqb-true j k e in o.out l (subst (λ (i : ℕ). slice_get n.view.sockets.lines i ≡ Some l) same g)
        go false e = false_from_ne_true (wants_write n.view l) (λ asks.
            let old = alike_back m.view.sockets.lines n.view.sockets.lines j l o.serves.alike g in
            let other : j ≡ k → ⊥ = λ x. false≢true (sym e ∙ eq-eqb j k x) in
            let was = o.no_more j old.0 l old.1 g other asks in
            false≢true (sym (r.none j old.0 (below_one j k lt other) old.1) ∙ was))

pub writes_end : (k : ℕ) (before items : List Item) (w m : WatchState) → WritesAll k before items w m → length m.view.sockets.lines ≤ k → WritesAll (length m.view.sockets.lines) before items w m
writes_end k before items w m r le = record { serves = r.serves; none = λ j l lt g. r.none j l (omega (arith, lt, le)) g }
