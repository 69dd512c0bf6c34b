-- Polled: a poll, a round, and a whole run.
use Rattle.std.proofs.Common.{◌≡◌, ℕ, ◌+◌, Bool, true, false, refl, sym, ap, subst, ◌∙◌, List, [], ◌∷◌, ◌++◌, append_assoc, append-nil, arith}
use Rattle.std.specs.Prelude.{map}
use Rattle.std.specs.List.{fold}
use Rattle.std.proofs.lemmas.Bool.{and_parts}
use Rattle.plain_lemmas.proofs.Each.{each_map}
use Rattle.definitions.specs.Lists.{EachIs}
use Rattle.definitions.specs.World.{Game}
use Rattle.socket_station.specs.declared.answers.Did.TheVariants as D
use Rattle.socket_station.specs.declared.answers.Ready.{Ready}
use Rattle.socket_station.specs.declared.answers.Ready.TheVariants.{Opened, Socket as Seems}
use Rattle.socket_station.specs.Standings.{AreNew, OpensNew, standing_in}
use Rattle.socket_station.specs.Items.{Item, Polled, PollCall, Failed, poll_item}
use Rattle.socket_lines.specs.declared.line.Line.{Line}
use Rattle.socket_lines.specs.declared.seat.Seat.{Seat}
use Rattle.socket_lines.specs.Seats.{rests}
use Rattle.peer_rules.specs.declared.phases.Phase.TheVariants.{PollFault}
use Rattle.loop_rules.specs.Tables.{Table}
use Rattle.loop_rules.specs.Licence.{all_is_shut, is_licensed}
use Rattle.loop_rules.specs.After.{listed, rested, polled_on}
use Rattle.loop_rules.specs.Told.{DiffersBy, LineStands, IsTold}
use Rattle.loop_rules.proofs.Told.{told_goes_on, not_in_fresh}
use Rattle.loop_rules.specs.Handling.{IsOfOther}
use Rattle.socket_list.specs.Opening.{AreNewTo}
use Rattle.ready_loop.specs.States.{LoopState, IsFit, IsOthers, base_of, view_of}
use Rattle.session_log.specs.Writing.{Writing}
use Rattle.ready_loop.proofs.Fits.{fit_put}
use Rattle.ready_loop.specs.Steps.{did_by, with_table, in_phase}
use Rattle.ready_loop.specs.Going.{Grows, polls_of}
use Rattle.ready_loop.specs.Polling.{IsLicensedToPoll, GoesBy, Polls}
use Rattle.ready_loop.proofs.Going.{polls_more, new_after}
use Rattle.ready_loop.proofs.Idle.{still_view, idle_view}

-- ---- the poll may be made

licensed_base : (items : List Item) (l : LoopState) → IsLicensedToPoll items l → is_licensed (base_of l) ≡ true
licensed_base items l w = ap is_licensed (sym (idle_view l w.whole.idle)) ∙ w.licensed

pub poll_shut : (items : List Item) (l : LoopState) → IsLicensedToPoll items l → all_is_shut l.table ≡ true
poll_shut items l w =
    let a = and_parts _ _ (licensed_base items l w) in
    let b = and_parts _ _ a.0 in
    let c = and_parts _ _ b.0 in
    let d = and_parts _ _ c.0 in
    (and_parts _ _ d.1).1

new_list : (items : List Item) (lines : List Line) (list : List Ready) → AreNew (standing_in items) list → EachIs (LineStands items) lines → AreNewTo lines list
new_list items lines [] n each = tt
new_list items lines (Opened s ∷ list) n each = (not_in_fresh items s lines n.0 each, n.1, new_list items lines list n.2 each)
new_list items lines (Seems s ∷ list) n each = new_list items lines list n each

pub poll_new : (items : List Item) (l : LoopState) (list : List Ready) → IsLicensedToPoll items l → OpensNew items (poll_item D.Done list) → AreNewTo l.table.lines list
poll_new items l list w n = new_list items l.table.lines list n (subst (IsTold items) (idle_view l w.whole.idle) w.told).stand

-- ---- what is shown behind it

listed_leaves : (t : Table) (list : List Ready) → ((fold listed t list).waiting ≡ t.waiting) × ((fold listed t list).seats ≡ t.seats)
listed_leaves t [] = (refl, refl)
listed_leaves t (Opened s ∷ list) = listed_leaves (listed t (Opened s)) list
listed_leaves t (Seems s ∷ list) = listed_leaves (listed t (Seems s)) list

pub polled_waits : (t : Table) (list : List Ready) → (polled_on list t).waiting ≡ t.waiting
polled_waits t list = (listed_leaves (rested t) list).0

pub polled_seats : (t : Table) (list : List Ready) → (polled_on list t).seats ≡ map rests t.seats
polled_seats t list = (listed_leaves (rested t) list).1

rests_fit : (game : Game) (me : ℕ) (cs : List Seat) → EachIs (IsOthers game me) cs → EachIs (IsOthers game me) (map rests cs)
rests_fit game me [] e = tt
rests_fit game me (c ∷ cs) e = (record { player = e.0.player; other = e.0.other; most = e.0.most }, rests_fit game me cs e.1)

rests_differ : (cs : List Seat) → DiffersBy (λ c. c.link.player) cs → DiffersBy (λ c. c.link.player) (map rests cs)
rests_differ [] d = tt
rests_differ (c ∷ cs) d = ((each_map (λ (x : Seat). x.link.player ≡ c.link.player → ⊥) rests cs).1 d.0, rests_differ cs d.1)

pub polled_fit : (game : Game) (me : ℕ) (t : Table) (list : List Ready) → EachIs (IsOthers game me) t.seats → EachIs (IsOthers game me) (polled_on list t).seats
polled_fit game me t list e = subst (EachIs (IsOthers game me)) (sym (polled_seats t list)) (rests_fit game me t.seats e)

pub polled_differ : (t : Table) (list : List Ready) → DiffersBy (λ c. c.link.player) t.seats → DiffersBy (λ c. c.link.player) (polled_on list t).seats
polled_differ t list d = subst (DiffersBy (λ c. c.link.player)) (sym (polled_seats t list)) (rests_differ t.seats d)

-- ---- histories with polls

pub by_then : (i j : ℕ) (a b c : List Item) (l m n : LoopState) → GoesBy i a b l m → GoesBy j b c m n → GoesBy (i + j) a c l n
by_then i j a b c l m n g h = record {
  more = g.more ++ h.more;
  grown = h.grown ∙ ap (λ (items : List Item). items ++ h.more) g.grown ∙ append_assoc a g.more h.more;
  new = λ n. h.new (g.new n);
  polls = (let x = g.polls in let y = h.polls in omega (arith, x, y));
  setting = h.setting ∙ g.setting;
  told = h.told;
}

pub by_none : (a b : List Item) (l m : LoopState) → Grows a b l m → GoesBy 0 a b l m
by_none a b l m g = record { more = g.more; grown = g.grown; new = g.new; polls = (let x = g.polls in omega (arith, x)); setting = g.setting; told = g.told }

pub by_still : (a : List Item) (l : LoopState) → IsTold a (view_of l) → GoesBy 0 a a l l
by_still a l told = record { more = []; grown = sym (append-nil a); new = λ n. n; polls = omega arith; setting = refl; told = told }

-- the table after a poll
abbrev pub polled_state : (done : Bool) → List Ready → LoopState → LoopState
polled_state true list l = with_table (polled_on list l.table) l
polled_state false list l = in_phase PollFault l

pub polls_so : (done : Bool) (before after : List Item) (l m : LoopState) (list : List Ready) → IsLicensedToPoll before l → OpensNew before (poll_item (did_by done) list) → after ≡ before ++ poll_item (did_by done) list ∷ [] →
    m ≡ polled_state done list l → Polls done before after l m
polls_so true before after l m list w n on same =
    subst (λ (x : LoopState). Polls true before after l x) (sym same) (record {
      goes = record {
        more = Polled list ∷ [];
        grown = on;
        new = new_after before after (Polled list) on n;
        polls = ap (λ (items : List Item). polls_of items) on ∙ polls_more before (Polled list);
        setting = refl;
        told = subst (λ (items : List Item). IsTold items (view_of next)) (sym on)
            (subst (IsTold (before ++ Polled list ∷ [])) (sym (still_view next (polled_waits l.table list ∙ w.whole.idle.waiting) w.whole.idle.handled))
            (told_goes_on before (base_of l) (Polled list) (subst (IsTold before) (idle_view l w.whole.idle) w.told) n (licensed_base before l w)));
      };
      peer = refl;
      stands = record { idle = record { running = w.whole.idle.running; kept = w.whole.idle.kept; waiting = polled_waits l.table list ∙ w.whole.idle.waiting; handled = w.whole.idle.handled }; synced = w.whole.synced };
    })
  where
    next : LoopState
    next = with_table (polled_on list l.table) l
polls_so false before after l m list w n on same =
    subst (λ (x : LoopState). Polls false before after l x) (sym same) (record {
      goes = record {
        more = Failed PollCall ∷ [];
        grown = on;
        new = new_after before after (Failed PollCall) on tt;
        polls = ap (λ (items : List Item). polls_of items) on ∙ polls_more before (Failed PollCall);
        setting = refl;
        told = subst (λ (items : List Item). IsTold items (view_of (in_phase PollFault l))) (sym on)
            (subst (IsTold (before ++ Failed PollCall ∷ [])) (sym (still_view (in_phase PollFault l) w.whole.idle.waiting w.whole.idle.handled))
            (told_goes_on before (base_of l) (Failed PollCall) (subst (IsTold before) (idle_view l w.whole.idle) w.told) tt (licensed_base before l w)));
      };
      peer = refl;
      stands = record { fault = refl; kept = w.whole.idle.kept; synced = w.whole.synced; waiting = w.whole.idle.waiting; handled = w.whole.idle.handled };
    })

-- ---- as the loop's parts show it

pub licensed_here : (items : List Item) (i l : LoopState) → i ≡ l → IsLicensedToPoll items l → IsLicensedToPoll items i
licensed_here items i l same w = subst (IsLicensedToPoll items) (sym same) w

pub polled_done : (items after : List Item) (i l : LoopState) (t : Table) (list seen : List Ready) → i ≡ l → IsLicensedToPoll items l → OpensNew items (poll_item D.Done list) → after ≡ items ++ poll_item D.Done list ∷ [] → seen ≡ list → t ≡ polled_on seen i.table →
    Polls true items after l (with_table t i)
polled_done items after i l t list seen same w n on all is =
    subst (λ (x : LoopState). Polls true items after x (with_table t i)) same
    (polls_so true items after i (with_table t i) list (licensed_here items i l same w) n on (ap (λ (u : Table). with_table u i) (is ∙ ap (λ (rs : List Ready). polled_on rs i.table) all)))

pub polled_failed : (items after : List Item) (i l : LoopState) (list : List Ready) → i ≡ l → IsLicensedToPoll items l → OpensNew items (poll_item D.Failed list) → after ≡ items ++ poll_item D.Failed list ∷ [] → Polls false items after l (in_phase PollFault i)
polled_failed items after i l list same w n on =
    subst (λ (x : LoopState). Polls false items after x (in_phase PollFault i)) same (polls_so false items after i (in_phase PollFault i) list (licensed_here items i l same w) n on refl)

pub polled_fits : (i : LoopState) (w : Writing) (t : Table) (seen : List Ready) → t ≡ polled_on seen i.table → IsFit i w → IsFit (with_table t i) w
polled_fits i w t seen is f =
    subst (λ (u : Table). IsFit (with_table u i) w) (sym is)
    (fit_put i w (polled_on seen i.table) (polled_fit i.peer.game i.peer.me i.table seen f.seats) (polled_differ i.table seen f.differ)
    (subst (EachIs (IsOfOther i.peer.game i.peer.me)) (sym (polled_waits i.table seen)) f.waiting) f)
