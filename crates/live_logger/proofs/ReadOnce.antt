-- ReadOnce: a read of a socket, and loops of reads.
use Rattle.std.proofs.Common.{◌≡◌, ℕ, zero, suc, ◌+◌, ◌<◌, ◌≤◌, Bool, true, false, refl, sym, ap, subst, ◌∙◌, List, [], ◌∷◌, ◌++◌, arith, length}
use Rattle.std.specs.Prelude.{Some, ◌&&◌, ◌||◌, ◌==◌, not, take, slice_get}
use Rattle.std.proofs.lemmas.Bool.{and_from, and_parts, eq-eqb, eqb-true, false≢true, le-leb, lt-ltb}
use Rattle.std.proofs.lemmas.List.{length-take-le}
use Rattle.socket_station.specs.declared.answers.SocketRead.{SocketRead}
use Rattle.socket_station.specs.declared.answers.SocketRead.TheVariants as R
use Rattle.socket_station.specs.Items.{Item, read_item}
use Rattle.socket_station.specs.Standings.{OpensNew}
use Rattle.socket_station.specs.Withins.{TakesWithin}
use Rattle.socket_lines.specs.declared.line.Line.{Line}
use Rattle.socket_lines.specs.Lines.{closed, quieted}
use Rattle.loop_rules.proofs.Alike.{Alike, alike, alike_at, alike_then, quieted_same, closed_same}
use Rattle.socket_list.specs.Sockets.{IsAt, line_of}
use Rattle.watch_rules.specs.declared.phases.WatchPhase.TheVariants.{Running}
use Rattle.watch_rules.specs.Views.{View, start}
use Rattle.watch_rules.specs.Hearing.{room_on, took_with}
use Rattle.watch_rules.specs.After as A
use Rattle.watch_rules.specs.Licence.{is_running, asks_shut}
use Rattle.watch_rules.specs.Rules.{is_allowed, is_within, may_read_line, wants_read}
use Rattle.watch_rules.specs.Histories.{AreTold}
use Rattle.watch_rules.proofs.Told.{by_keeps}
use Rattle.live_logger.specs.States.{WatchState, IsWatching, with_view}
use Rattle.live_logger.specs.Going.{Goes, poll_count}
use Rattle.live_logger.specs.Reading.{NoMoreReads, Reads, ReadsAll, ReadsOut, WantsNone, left_at, read_by}
use Rattle.live_logger.proofs.Places.{alike_back, at_alike, at_found}
use Rattle.live_logger.proofs.Taken.{no_more_line, no_more_same, no_more_then, no_more_took, left_none, left_wants, took_left}
use Rattle.live_logger.proofs.Going.{goes_one, goes_still, goes_then, history_on}

-- ---- one read

read_is : (v : View) (l : Line) (s : ℕ) (read : SocketRead) (buf : List ℕ) → line_of v.sockets s ≡ Some l → read_by v l s read buf ≡ A.after v (read_item s read buf)
read_is v l s (R.Took n) buf e = sym (ap (took_with v s (take n buf)) e)
read_is v l s R.NotYet buf e = refl
read_is v l s R.Ended buf e = refl
read_is v l s R.Failed buf e = refl

read_opens : (items : List Item) (s : ℕ) (read : SocketRead) (buf : List ℕ) → OpensNew items (read_item s read buf)
read_opens items s (R.Took n) buf = tt
read_opens items s R.NotYet buf = tt
read_opens items s R.Ended buf = tt
read_opens items s R.Failed buf = tt

read_polls : (s : ℕ) (read : SocketRead) (buf : List ℕ) → poll_count (read_item s read buf) ≡ 0
read_polls s (R.Took n) buf = refl
read_polls s R.NotYet buf = refl
read_polls s R.Ended buf = refl
read_polls s R.Failed buf = refl

read_may : (items : List Item) (w : WatchState) (k s : ℕ) (at : IsAt w.view.sockets k s) (read : SocketRead) (buf : List ℕ) → IsWatching items w → wants_read w.view at.0 ≡ true → TakesWithin read buf → length buf ≤ room_on w.view at.0 →
    is_allowed w.view (read_item s read buf) ≡ true
read_may items w k s at read buf ready wants within few = go read within
  where
    found : line_of w.view.sockets s ≡ Some at.0
    found = at_found w.view.sockets k s at ready.told.differ

    may : may_read_line w.view (line_of w.view.sockets s) ≡ true
    may = ap (may_read_line w.view) found ∙ and_from _ _ (ap is_running ready.running) wants

    go : (r : SocketRead) → TakesWithin r buf → is_allowed w.view (read_item s r buf) ≡ true
    go (R.Took n) t =
        let long : length (take n buf) ≡ n = length-take-le n buf t.1 in
        let inside : is_within w.view (length (take n buf)) (Some at.0) ≡ true =
        and_from _ _ (lt-ltb 0 (length (take n buf)) (let a = t.0 in omega (arith, long, a))) (le-leb (length (take n buf)) (room_on w.view at.0) (let a = t.1 in omega (arith, long, a, few))) in
        and_from _ _ may (ap (is_within w.view (length (take n buf))) found ∙ inside)
    go R.NotYet t = may
    go R.Ended t = may
    go R.Failed t = may

read_running : (v : View) (l : Line) (s : ℕ) (read : SocketRead) (buf : List ℕ) → v.phase ≡ Running → (read_by v l s read buf).phase ≡ Running
read_running v l s (R.Took n) buf e = (by_keeps v s (take n buf) l l.name).phase ∙ e
read_running v l s R.NotYet buf e = e
read_running v l s R.Ended buf e = e
read_running v l s R.Failed buf e = e

read_alike : (v : View) (l : Line) (s : ℕ) (read : SocketRead) (buf : List ℕ) → Alike v.sockets.lines (read_by v l s read buf).sockets.lines
read_alike v l s (R.Took n) buf = (by_keeps v s (take n buf) l l.name).lines
read_alike v l s R.NotYet buf = alike_at s quieted quieted_same v.sockets.lines
read_alike v l s R.Ended buf = alike_at s closed closed_same v.sockets.lines
read_alike v l s R.Failed buf = alike_at s closed closed_same v.sockets.lines

quiet_none : (v : View) (l : Line) → wants_read v (quieted l) ≡ false
quiet_none v l = go l.is_open (asks_shut v (quieted l))
  where
    go : (o a : Bool) → (o && not a && not true) ≡ false
    go true true = refl
    go true false = refl
    go false a = refl

-- what a read took, as a part of the room
took_some : (n : ℕ) (buf : List ℕ) → TakesWithin (R.Took n) buf → (0 < length (take n buf)) × (length (take n buf) ≤ length buf)
took_some n buf t = let long = length-take-le n buf t.1 in let a = t.0 in let b = t.1 in (omega (arith, long, a), omega (arith, long, b))

pub read_state : (before after : List Item) (w m : WatchState) (k s : ℕ) (at : IsAt w.view.sockets k s) (read : SocketRead) (buf : List ℕ) → IsWatching before w → wants_read w.view at.0 ≡ true → TakesWithin read buf → length buf ≤ room_on w.view at.0 →
    after ≡ before ++ read_item s read buf ∷ [] → m ≡ with_view (read_by w.view at.0 s read buf) w → Reads k before after w m
read_state before after w m k s at read buf ready wants within few on state = subst (λ (x : WatchState). Reads k before after w x) (sym state) (record {
  goes = goes_one before after (read_item s read buf) w (with_view u w) ready (read_opens before s read buf) (read_may before w k s at read buf ready wants within few) (read_polls s read buf) on
      (ap (λ (v : View). with_view v w) is) (ap (λ (v : View). v.phase) (sym is) ∙ read_running w.view at.0 s read buf ready.running);
  alike = read_alike w.view at.0 s read buf;
  no_more = no_more read within;
  less = less read within;
})
  where
    u : View
    u = read_by w.view at.0 s read buf

    is : u ≡ A.after w.view (read_item s read buf)
    is = read_is w.view at.0 s read buf (at_found w.view.sockets k s at ready.told.differ)

    no_more : (r : SocketRead) → TakesWithin r buf → NoMoreReads k w.view (read_by w.view at.0 s r buf)
    no_more (R.Took n) t = let some = took_some n buf t in no_more_took k s w.view (take n buf) at ready.told.differ some.0 (let a = some.1 in omega (arith, a, few))
    no_more R.NotYet t = no_more_line k s quieted w.view at ready.told.differ
    no_more R.Ended t = no_more_line k s closed w.view at ready.told.differ
    no_more R.Failed t = no_more_line k s closed w.view at ready.told.differ

    nothing : (n : ℕ) → n ≡ 0 → n < left_at k w.view
    nothing n z = (let e = left_wants k s w.view at wants in omega (arith, z, e))

    less : (r : SocketRead) → TakesWithin r buf → left_at k (read_by w.view at.0 s r buf) < left_at k w.view
    less (R.Took n) t = let some = took_some n buf t in took_left k s w.view (take n buf) at ready.told.differ wants some.0 (let a = some.1 in omega (arith, a, few))
    less R.NotYet t = nothing _ (left_none k s quieted w.view at ready.told.differ (quiet_none w.view at.0))
    less R.Ended t = nothing _ (left_none k s closed w.view at ready.told.differ refl)
    less R.Failed t = nothing _ (left_none k s closed w.view at ready.told.differ refl)

-- what was told is a history, also where memory ran out after the read
pub read_told : (before after : List Item) (w : WatchState) (k s : ℕ) (at : IsAt w.view.sockets k s) (read : SocketRead) (buf : List ℕ) → IsWatching before w → wants_read w.view at.0 ≡ true → TakesWithin read buf → length buf ≤ room_on w.view at.0 →
    after ≡ before ++ read_item s read buf ∷ [] → AreTold (start w.view.setting) [] after
read_told before after w k s at read buf ready wants within few on =
    history_on before after w.view (read_item s read buf) ready.told (read_opens before s read buf) (read_may before w k s at read buf ready wants within few) on

-- before a read: the socket is open, and has room
pub reads_open : (v : View) (l : Line) → wants_read v l ≡ true → l.is_open ≡ true
reads_open v l e = (and_parts _ _ (and_parts _ _ e).0).0

pub reads_room : (v : View) (l : Line) → wants_read v l ≡ true → 0 < room_on v l
reads_room v l e = go l.is_open l.is_wrong l.is_quiet (room_on v l) e
  where
    go : (o w q : Bool) (n : ℕ) → (o && not (o && (w || (n == 0))) && not q) ≡ true → 0 < n
    go false w q n h = absurd (false≢true h)
    go true true q n h = absurd (false≢true h)
    go true false q zero h = absurd (false≢true h)
    go true false q (suc n) h = omega arith

-- ---- a socket is read out

pub record ReadingOut (k s : ℕ) (before items : List Item) (w m : WatchState) : Type 0 where
  pub goes : Goes before items w m
  pub alike : Alike w.view.sockets.lines m.view.sockets.lines
  pub no_more : NoMoreReads k w.view m.view
  pub at : IsAt m.view.sockets k s

pub out_first : (k s : ℕ) (items : List Item) (w : WatchState) → IsWatching items w → IsAt w.view.sockets k s → ReadingOut k s items items w w
out_first k s items w ready at = record { goes = goes_still items w ready; alike = alike w.view.sockets.lines; no_more = no_more_same k w.view; at = at }

pub out_on : (k s : ℕ) (before items after : List Item) (w m n : WatchState) → ReadingOut k s before items w m → Reads k items after m n → ReadingOut k s before after w n
out_on k s before items after w m n r o = record {
  goes = goes_then before items after w m n r.goes o.goes;
  alike = alike_then w.view.sockets.lines m.view.sockets.lines n.view.sockets.lines r.alike o.alike;
  no_more = no_more_then k w.view m.view n.view o.alike r.no_more o.no_more;
  at = at_alike m.view.sockets n.view.sockets k s o.alike r.at;
}

pub out_ends : (k s : ℕ) (before items : List Item) (w m : WatchState) → ReadingOut k s before items w m → WantsNone m.view k → ReadsOut k before items w m
out_ends k s before items w m r none = record { goes = r.goes; alike = r.alike; no_more = r.no_more; out = none }

-- ---- each socket

pub all_first : (items : List Item) (w : WatchState) → IsWatching items w → ReadsAll 0 items items w w
all_first items w ready = record { goes = goes_still items w ready; alike = alike w.view.sockets.lines; none = λ j l lt g. absurd (omega (arith, lt)) }

pub all_on : (k : ℕ) (before items after : List Item) (w m n : WatchState) → ReadsAll k before items w m → ReadsOut k items after m n → ReadsAll (k + 1) before after w n
all_on k before items after w m n r o = record {
  goes = goes_then before items after w m n r.goes o.goes;
  alike = alike_then w.view.sockets.lines m.view.sockets.lines n.view.sockets.lines r.alike o.alike;
  none = none;
}
  where
    none : (j : ℕ) (l : Line) → j < k + 1 → slice_get n.view.sockets.lines j ≡ Some l → wants_read n.view l ≡ false
    none j l lt g = go (j == k) refl
      where
        wants : (b : Bool) → wants_read n.view l ≡ b → (j ≡ k → ⊥) → b ≡ false
        wants false e x = refl
        wants true e x =
            let old = alike_back m.view.sockets.lines n.view.sockets.lines j l o.alike g in
            let was = o.no_more j old.0 l old.1 g x e in
            absurd (false≢true (sym (r.none j old.0 (beside j x) old.1) ∙ was))
          where
            beside : (i : ℕ) → (i ≡ k → ⊥) → j < k
            beside i y = (let z = x in omega (arith, lt, z))

        go : (b : Bool) → (j == k) ≡ b → wants_read n.view l ≡ false
        go true e = let same : j ≡ k = eqb-true j k e in o.out l (subst (λ (i : ℕ). slice_get n.view.sockets.lines i ≡ Some l) same g)
        go false e = wants (wants_read n.view l) refl (λ x. false≢true (sym e ∙ eq-eqb j k x))

pub all_ends : (k : ℕ) (before items : List Item) (w m : WatchState) → ReadsAll k before items w m → length m.view.sockets.lines ≤ k → ReadsAll (length m.view.sockets.lines) before items w m
all_ends k before items w m r le = record { goes = r.goes; alike = r.alike; none = λ j l lt g. r.none j l (omega (arith, lt, le)) g }
