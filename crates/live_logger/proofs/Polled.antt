-- Polled: a poll, and a round.
use Rattle.std.proofs.Common.{◌≡◌, ℕ, suc, ◌<◌, Bool, true, false, refl, sym, ap, subst, ◌∙◌, List, [], ◌∷◌, ◌++◌, append_assoc, arith, length}
use Rattle.std.specs.Prelude.{Some, ◌&&◌, ◌||◌, ◌==◌, not, slice_get}
use Rattle.std.specs.List.{list_all}
use Rattle.std.proofs.lemmas.Bool.{and_from, and_parts, false_from_ne_true, false≢true}
use Rattle.definitions.specs.Lists.{EachIs, is_empty}
use Rattle.socket_station.specs.declared.answers.Did.TheVariants as D
use Rattle.socket_station.specs.declared.answers.Ready.{Ready}
use Rattle.socket_station.specs.declared.answers.Ready.TheVariants.{Opened, Socket as Seems}
use Rattle.socket_station.specs.Items.{Item, PollCall, Polled, Failed, poll_item}
use Rattle.socket_station.specs.Standings.{AreNew, OpensNew, standing_in}
use Rattle.socket_lines.specs.declared.line.Line.{Line}
use Rattle.loop_rules.specs.Licence.{is_read}
use Rattle.loop_rules.specs.Told.{LineStands}
use Rattle.loop_rules.proofs.Told.{not_in_fresh}
use Rattle.loop_rules.proofs.Alike.{Alike}
use Rattle.socket_list.specs.Opening.{AreNewTo}
use Rattle.socket_list.proofs.Counting.{length_alike}
use Rattle.socket_list.specs.Sockets.{polled_on}
use Rattle.socket_list.specs.Sound.{none_wrong}
use Rattle.log_books.specs.Books.{is_agreed}
use Rattle.watch_rules.specs.declared.phases.WatchPhase.TheVariants.{Running, PollFault}
use Rattle.watch_rules.specs.Views.{View}
use Rattle.watch_rules.specs.Hearing.{room_on, with_sockets}
use Rattle.watch_rules.specs.After.{in_phase}
use Rattle.watch_rules.specs.Licence.{all_is_shut, asks_shut, is_given, is_licensed, is_running}
use Rattle.watch_rules.specs.Rules.{wants_read}
use Rattle.live_logger.specs.States.{WatchState, IsWatching, with_view}
use Rattle.live_logger.specs.Going.{Goes}
use Rattle.live_logger.specs.Reading.{NoneReads, ReadsAll}
use Rattle.live_logger.specs.Serving.{AsksNoMore, NoneAsks, NoneWrites, ShutsAll, WritesAll}
use Rattle.live_logger.specs.Polling.{GoesBy, LastIsPoll, LastPollFailed, Polls, all_agreed}
use Rattle.live_logger.proofs.Places.{alike_back}
use Rattle.live_logger.proofs.Going.{goes_then, polls_join, told_on}

-- ---- the licence

read_line : (o a q : Bool) → (o && not a && not q) ≡ false → a ≡ false → (not o || q) ≡ true
read_line false a q e n = refl
read_line true a true e n = refl
read_line true false false e n = absurd (false≢true (sym e))
read_line true true false e n = absurd (false≢true (sym n))

given_line : (o a b u : Bool) → (o && not a && not b && not u) ≡ false → a ≡ false → (not o || b || u) ≡ true
given_line false a b u e n = refl
given_line true a true u e n = refl
given_line true a false true e n = refl
given_line true false false false e n = absurd (false≢true (sym e))
given_line true true b u e n = absurd (false≢true (sym n))

-- what is so of the line at each place is so of all
all_lines : (p : Line → Bool) (ls : List Line) → ((j : ℕ) (l : Line) → j < length ls → slice_get ls j ≡ Some l → p l ≡ true) → list_all p ls ≡ true
all_lines p [] f = refl
all_lines p (l ∷ ls) f = and_from (p l) (list_all p ls) (f 0 l (omega arith) refl) (all_lines p ls (λ j m lt g. f (suc j) m (omega (arith, lt)) g))

-- nobody is to be read, shut or written
pub record IsQuiet (v : View) : Type 0 where
  pub reads : NoneReads (length v.sockets.lines) v
  pub asks : NoneAsks (length v.sockets.lines) v
  pub writes : NoneWrites (length v.sockets.lines) v

pub licensed : (v : View) → v.phase ≡ Running → IsQuiet v → is_licensed v ≡ true
licensed v run q =
    and_from _ _ (and_from _ _ (and_from _ _ (ap is_running run)
    (all_lines is_read v.sockets.lines (λ j l lt g. read_line l.is_open (asks_shut v l) l.is_quiet (q.reads j l lt g) (q.asks j l lt g))))
    (all_lines is_given v.sockets.lines (λ j l lt g. given_line l.is_open (asks_shut v l) l.is_blocked (is_empty l.unsent) (q.writes j l lt g) (q.asks j l lt g))))
    (all_lines (λ l. not (asks_shut v l)) v.sockets.lines (λ j l lt g. ap not (q.asks j l lt g)))

-- ---- what was so before is so after shutting and writing

reads_kept : (v w : View) → Alike v.sockets.lines w.sockets.lines → AsksNoMore v w → NoneReads (length v.sockets.lines) v → NoneReads (length w.sockets.lines) w
reads_kept v w a m n j l lt g = false_from_ne_true (wants_read w l) (λ e.
    let old = alike_back v.sockets.lines w.sockets.lines j l a g in
    let long = length_alike v.sockets.lines w.sockets.lines a in
    false≢true (sym (n j old.0 (omega (arith, lt, long)) old.1) ∙ (m j old.0 l old.1 g).0 e))

asks_kept : (v w : View) → Alike v.sockets.lines w.sockets.lines → AsksNoMore v w → NoneAsks (length v.sockets.lines) v → NoneAsks (length w.sockets.lines) w
asks_kept v w a m n j l lt g = false_from_ne_true (asks_shut w l) (λ e.
    let old = alike_back v.sockets.lines w.sockets.lines j l a g in
    let long = length_alike v.sockets.lines w.sockets.lines a in
    false≢true (sym (n j old.0 (omega (arith, lt, long)) old.1) ∙ (m j old.0 l old.1 g).1 e))

-- all that is there is handled
pub record Handled (before after : List Item) (w m : WatchState) : Type 0 where
  pub goes : Goes before after w m
  pub quiet : IsQuiet m.view

pub handled : (a b c d : List Item) (w m n o : WatchState) → ReadsAll (length m.view.sockets.lines) a b w m → ShutsAll (length n.view.sockets.lines) b c m n → WritesAll (length o.view.sockets.lines) c d n o → Handled a d w o
handled a b c d w m n o r s x = record {
  goes = goes_then a b d w m o r.goes (goes_then b c d m n o s.serves.goes x.serves.goes);
  quiet = record {
    reads = reads_kept n.view o.view x.serves.alike x.serves.asks (reads_kept m.view n.view s.serves.alike s.serves.asks r.none);
    asks = asks_kept n.view o.view x.serves.alike x.serves.asks s.none;
    writes = x.none;
  };
}

-- ---- a poll

pub poll_shut : (v : View) → is_licensed v ≡ true → all_is_shut v ≡ true
poll_shut v e = (and_parts _ _ e).1

wrong_line : (o w r : Bool) → not (o && (w || r)) ≡ true → not (o && w) ≡ true
wrong_line false w r e = refl
wrong_line true false r e = refl
wrong_line true true r e = e

pub shut_wrong : (v : View) → all_is_shut v ≡ true → none_wrong v.sockets ≡ true
shut_wrong v e = go v.sockets.lines e
  where
    go : (ls : List Line) → list_all (λ l. not (asks_shut v l)) ls ≡ true → list_all (λ l. not (l.is_open && l.is_wrong)) ls ≡ true
    go [] h = refl
    go (l ∷ ls) h = let p = and_parts _ _ h in and_from _ _ (wrong_line l.is_open l.is_wrong (room_on v l == 0) p.0) (go ls p.1)

new_list : (items : List Item) (lines : List Line) (list : List Ready) → AreNew (standing_in items) list → EachIs (LineStands items) lines → AreNewTo lines list
new_list items lines [] n each = tt
new_list items lines (Opened s ∷ list) n each = (not_in_fresh items s lines n.0 each, n.1, new_list items lines list n.2 each)
new_list items lines (Seems s ∷ list) n each = new_list items lines list n each

pub poll_new : (items : List Item) (w : WatchState) (list : List Ready) → IsWatching items w → OpensNew items (poll_item D.Done list) → AreNewTo w.view.sockets.lines list
poll_new items w list ready n = new_list items w.view.sockets.lines list n ready.told.stand

pub polled_done : (before after : List Item) (w m : WatchState) (list seen : List Ready) → IsWatching before w → is_licensed w.view ≡ true → OpensNew before (poll_item D.Done list) → after ≡ before ++ poll_item D.Done list ∷ [] → seen ≡ list →
    m ≡ with_view (with_sockets (polled_on seen w.view.sockets) w.view) w → Polls true before after w m
polled_done before after w m list seen ready may new on all state =
    let u : WatchState = with_view (with_sockets (polled_on list w.view.sockets) w.view) w in
    let told = told_on before after w.view (Polled list) ready.told new may on in
    subst (λ (x : WatchState). Polls true before after w x) (sym (state ∙ ap (λ (rs : List Ready). with_view (with_sockets (polled_on rs w.view.sockets) w.view) w) all)) (record {
      goes = record { more = Polled list ∷ []; grown = on; polls = refl; setting = refl; told = told; whole = ready.whole };
      streams = refl;
      watching = λ e. record { told = told; running = ready.running; whole = ready.whole };
      fault = λ e. absurd (false≢true (sym e));
      made = λ e. (before, list, on);
      failed = λ e. absurd (false≢true (sym e));
    })

pub polled_failed : (before after : List Item) (w m : WatchState) (list : List Ready) → IsWatching before w → is_licensed w.view ≡ true → after ≡ before ++ poll_item D.Failed list ∷ [] → m ≡ with_view (in_phase PollFault w.view) w → Polls false before after w m
polled_failed before after w m list ready may on state =
    let told = told_on before after w.view (Failed PollCall) ready.told tt may on in
    subst (λ (x : WatchState). Polls false before after w x) (sym state) (record {
      goes = record { more = Failed PollCall ∷ []; grown = on; polls = refl; setting = refl; told = told; whole = ready.whole };
      streams = refl;
      watching = λ e. absurd (false≢true e);
      fault = λ e. refl;
      made = λ e. absurd (false≢true e);
      failed = λ e. (before, on);
    })

-- ---- a round

by_then : (n : ℕ) (a b c : List Item) (w m o : WatchState) → Goes a b w m → GoesBy n b c m o → GoesBy n a c w o
by_then n a b c w m o g h = record {
  more = g.more ++ h.more;
  grown = h.grown ∙ ap (λ (items : List Item). items ++ h.more) g.grown ∙ append_assoc a g.more h.more;
  polls = (let j = polls_join g.more h.more in let x = g.polls in let y = h.polls in omega (arith, j, x, y));
  setting = h.setting ∙ g.setting;
  told = h.told;
  whole = h.whole;
}

same_agreed : (v w : View) → w.setting ≡ v.setting → w.streams ≡ v.streams → all_agreed v ≡ false → all_agreed w ≡ false
same_agreed v w e f n = ap (λ s. is_agreed s.game w.streams) e ∙ ap (is_agreed v.setting.game) f ∙ n

pub round_on : (a b c : List Item) (w m o : WatchState) → Handled a b w m → all_agreed m.view ≡ false → Polls true b c m o → GoesBy 1 a c w o × IsWatching c o × (all_agreed o.view ≡ false) × LastIsPoll c
round_on a b c w m o h n p = (by_then 1 a b c w m o h.goes p.goes, p.watching refl, same_agreed m.view o.view p.goes.setting p.streams n, p.made refl)

pub round_fault : (a b c : List Item) (w m o : WatchState) → Handled a b w m → all_agreed m.view ≡ false → Polls false b c m o → GoesBy 0 a c w o × (o.view.phase ≡ PollFault) × (all_agreed o.view ≡ false) × LastPollFailed c
round_fault a b c w m o h n p = (by_then 0 a b c w m o h.goes p.goes, p.fault refl, same_agreed m.view o.view p.goes.setting p.streams n, p.failed refl)

-- ---- as the logger's parts show it

pub new_in : (items : List Item) (i w : WatchState) (list seen : List Ready) → i ≡ w → IsWatching items w → OpensNew items (poll_item D.Done list) → seen ≡ list → AreNewTo i.view.sockets.lines seen
new_in items i w list seen e ready n all =
    subst (λ (rs : List Ready). AreNewTo i.view.sockets.lines rs) (sym all) (subst (λ (x : WatchState). AreNewTo x.view.sockets.lines list) (sym e) (poll_new items w list ready n))

pub done_in : (before after : List Item) (i w m : WatchState) (list seen : List Ready) → i ≡ w → IsWatching before w → is_licensed w.view ≡ true → OpensNew before (poll_item D.Done list) → after ≡ before ++ poll_item D.Done list ∷ [] → seen ≡ list →
    m ≡ with_view (with_sockets (polled_on seen i.view.sockets) i.view) i → Polls true before after w m
done_in before after i w m list seen e ready may n on all state =
    polled_done before after w m list seen ready may n on all (state ∙ ap (λ (x : WatchState). with_view (with_sockets (polled_on seen x.view.sockets) x.view) x) e)

pub failed_in : (before after : List Item) (i w m : WatchState) (list : List Ready) → i ≡ w → IsWatching before w → is_licensed w.view ≡ true → after ≡ before ++ poll_item D.Failed list ∷ [] → m ≡ with_view (in_phase PollFault i.view) i → Polls false before after w m
failed_in before after i w m list e ready may on state = polled_failed before after w m list ready may on (state ∙ ap (λ (x : WatchState). with_view (in_phase PollFault x.view) x) e)
