-- Kept: what a loop knows after the keep of the first entry that was not kept.
use Rattle.std.proofs.Common.{◌≡◌, ℕ, zero, suc, ◌+◌, ◌<◌, Bool, true, false, refl, sym, ap, subst, ◌∙◌, List, [], ◌∷◌, ◌++◌, arith, length}
use Rattle.std.proofs.lemmas.Bool.{and_from}
use Rattle.std.specs.Prelude.{Option, Some, not, drop, take, slice_get, is_none, if◌then◌else◌}
use Rattle.std.specs.List.{fold}
use Rattle.std.proofs.lemmas.List.{drop_more, take_more}
use Rattle.std.proofs.lemmas.List.Sums.{fold_push}
use Rattle.std.proofs.lemmas.Option.{get_or_from_slice_get}
use Rattle.definitions.specs.Lists.{EachIs}
use Rattle.definitions.specs.declared.frames.TurnFrame.{TurnFrame}
use Rattle.definitions.specs.declared.logs.Entry.{Entry}
use Rattle.definitions.specs.declared.logs.Entry.TheVariants.{Chose, Made, Got}
use Rattle.definitions.specs.Findings.{is_clean}
use Rattle.definitions.specs.Honest.{allows, allowed}
use Rattle.session_log.specs.Spelling.{FitsEntry}
use Rattle.session_log.specs.Writing.{Writing, fresh, written}
use Rattle.session_log.specs.Writing as W
use Rattle.socket_station.specs.declared.answers.Did.TheVariants as D
use Rattle.socket_station.specs.Items.{Item, KeepCall, Failed, Kept, keep_item}
use Rattle.peer_rules.specs.declared.arrivals.Arrival.{Arrival}
use Rattle.peer_rules.specs.declared.phases.Phase.{Phase}
use Rattle.peer_rules.specs.declared.phases.Phase.TheVariants.{KeepFault}
use Rattle.loop_rules.specs.Views.{View}
use Rattle.loop_rules.specs.Handling.{with_waiting, is_new_to, passed, sorted, sorted_out, IsOfOther}
use Rattle.loop_rules.specs.Keeping.{may_keep_in, with_entry}
use Rattle.loop_rules.specs.Told.{IsTold}
use Rattle.loop_rules.proofs.Kept.{Keeps, keeps_sorted}
use Rattle.ready_loop.specs.States.{LoopState, kept_of, writer_of, base_of, rest_of, view_of}
use Rattle.ready_loop.specs.Steps.{did_by, in_phase, written_for, next_bytes, kept_next}
use Rattle.ready_loop.specs.Going.{Goes}
use Rattle.ready_loop.specs.Handling.{IsGot}
use Rattle.ready_loop.proofs.Sorting.{IsOwn, more_kept, sorted_any, sorted_first, sorted_own, sorted_phase, sorted_twice}
use Rattle.ready_loop.proofs.Entries.{entry_same, kept_tells, fault_tells}
use Rattle.ready_loop.proofs.Going.{goes_one}

pub each_drop : {X : Type 0} (P : X → Type 0) (n : ℕ) (xs : List X) → EachIs P xs → EachIs P (drop n xs)
each_drop P zero xs e = e
each_drop P (suc n) [] e = tt
each_drop P (suc n) (x ∷ xs) e = each_drop P n xs e.1

pub take_next : (es : List Entry) (k : ℕ) (e : Entry) → k < length es → slice_get es k ≡ Some e → take (k + 1) es ≡ take k es ++ e ∷ []
take_next es k e lt g = take_more es k e lt ∙ ap (λ (x : Entry). take k es ++ x ∷ []) (get_or_from_slice_get es k e e g)

-- the view, but for the frames that wait, with the entry
pub base_next : (l : LoopState) (e : Entry) → l.kept < length l.peer.entries → slice_get l.peer.entries l.kept ≡ Some e → base_of (record l { kept = l.kept + 1 }) ≡ more_kept e (base_of l)
base_next l e lt g =
    ap (λ (es : List Entry). with_log es (fold W.after start es)) (take_next l.peer.entries l.kept e lt g)
    ∙ ap (with_log (kept_of l ++ e ∷ [])) (fold_push W.after start (kept_of l) e)
  where
    start : Writing
    start = fresh l.peer.game.id l.peer.me

    with_log : List Entry → Writing → View
    with_log es w = record (base_of l) { kept = es; writer = w }

-- what is written for it
next_written : (l : LoopState) (e : Entry) → slice_get l.peer.entries l.kept ≡ Some e → next_bytes l ≡ written (view_of l).writer e
next_written l e g = ap (written_for (writer_of l)) g ∙ ap (λ (w : Writing). written w e) (sym (keeps_sorted (rest_of l) (base_of l)).writer)

each_sorted : (P : Arrival → Type 0) (rest : List Arrival) (v : View) → EachIs P rest → EachIs P (sorted rest v).table.waiting
each_sorted P [] v e = tt
each_sorted P (a ∷ more) v e = clean (not (is_clean v.setting.game v.kept)) (is_new_to v a) (each_sorted P more (passed v a) e.1)
  where
    clean : (b c : Bool) → EachIs P (sorted more (passed v a)).table.waiting → EachIs P (if b then with_waiting [] v else (if c then with_waiting (a ∷ more) v else sorted more (passed v a))).table.waiting
    clean true c ih = tt
    clean false true ih = e
    clean false false ih = ih

-- ---- an own entry

own_view : (l : LoopState) (e : Entry) → l.kept < length l.peer.entries → slice_get l.peer.entries l.kept ≡ Some e → IsOwn e → EachIs (IsOfOther l.peer.game l.peer.me) (rest_of l) →
    sorted_out (with_entry e (view_of l)) ≡ view_of (record l { kept = l.kept + 1 })
own_view l e lt g o each =
    out e o
    ∙ ap (λ (v : View). more_kept e v) (sorted_twice (rest_of l) (base_of l))
    ∙ sym (sorted_own l.peer.game l.peer.me e (rest_of l) (base_of l) o refl refl each)
    ∙ ap (sorted (rest_of l)) (sym (base_next l e lt g))
  where
    v : View
    v = view_of l

    k : Keeps (base_of l) v
    k = keeps_sorted (rest_of l) (base_of l)

    own : (d : Entry) → IsOwn d → sorted v.table.waiting (with_waiting v.table.waiting (more_kept d v)) ≡ more_kept d (sorted v.table.waiting v)
    own d o = sorted_any v.table.waiting v.table.waiting (more_kept d v)
        ∙ sorted_own l.peer.game l.peer.me d v.table.waiting v o (ap (λ s. s.game) k.setting) (ap (λ s. s.me) k.setting) (each_sorted (IsOfOther l.peer.game l.peer.me) (rest_of l) (base_of l) each)

    out : (d : Entry) → IsOwn d → sorted_out (with_entry d v) ≡ more_kept d (sorted v.table.waiting v)
    out (Chose t m n) o = own (Chose t m n) o
    out (Made f) o = own (Made f) o
    out (Got q f) o = absurd o

-- before an entry is kept, or keeping it fails
pub record MayKeep (items : List Item) (l : LoopState) (e : Entry) : Type 0 where
  pub told : IsTold items (view_of l)
  pub more : l.kept < length l.peer.entries
  pub next : slice_get l.peer.entries l.kept ≡ Some e
  pub fits : FitsEntry e
  pub each : EachIs (IsOfOther l.peer.game l.peer.me) (rest_of l)
  pub may : may_keep_in (view_of l).phase (view_of l) e ≡ true

pub fault_told : (items : List Item) (l : LoopState) (e : Entry) → MayKeep items l e → IsTold (items ++ keep_item D.Failed (next_bytes l) ∷ []) (view_of (in_phase KeepFault l))
fault_told items l e w =
    subst (λ (bytes : List ℕ). IsTold (items ++ Failed (KeepCall bytes) ∷ []) (view_of (in_phase KeepFault l))) (sym (next_written l e w.next))
    (subst (IsTold (items ++ Failed (KeepCall (written (view_of l).writer e)) ∷ [])) (sym (sorted_phase l.peer.game l.peer.me KeepFault (rest_of l) (base_of l) refl refl w.each))
    (fault_tells items (view_of l) e w.told w.fits w.may))

own_told : (items : List Item) (l : LoopState) (e : Entry) → MayKeep items l e → IsOwn e → IsTold (items ++ keep_item D.Done (next_bytes l) ∷ []) (view_of (record l { kept = l.kept + 1 }))
own_told items l e w o =
    subst (λ (bytes : List ℕ). IsTold (items ++ Kept bytes ∷ []) (view_of (record l { kept = l.kept + 1 }))) (sym (next_written l e w.next))
    (subst (IsTold (items ++ Kept (written (view_of l).writer e) ∷ [])) (own_view l e w.more w.next o w.each)
    (kept_tells items (view_of l) e w.told w.fits w.may))

-- an own entry is kept, or keeping it fails: the history goes on
pub own_goes : (done : Bool) (items after : List Item) (l m : LoopState) (e : Entry) → MayKeep items l e → IsOwn e → after ≡ items ++ keep_item (did_by done) (next_bytes l) ∷ [] → m ≡ kept_next done l → Goes items after l m
own_goes true items after l m e w o on same = subst (λ (x : LoopState). Goes items after l x) (sym same) (goes_one items after (Kept (next_bytes l)) l (kept_next true l) on refl tt refl (omega arith) (own_told items l e w o) refl)
own_goes false items after l m e w o on same = subst (λ (x : LoopState). Goes items after l x) (sym same) (goes_one items after (Failed (KeepCall (next_bytes l))) l (kept_next false l) on refl tt refl (omega arith) (fault_told items l e w) refl)

-- ---- the entry of the first frame that waits

-- the view, where the first frame that waits is new
got_view : (l : LoopState) (w : IsGot l) → l.handled < length l.table.waiting → view_of l ≡ with_waiting (w.arrival ∷ drop (l.handled + 1) l.table.waiting) (base_of l)
got_view l w lt =
    ap (λ (rest : List Arrival). sorted rest (base_of l)) (drop_more l.table.waiting l.handled w.arrival lt ∙ ap (λ (a : Arrival). a ∷ drop (l.handled + 1) l.table.waiting) (get_or_from_slice_get l.table.waiting l.handled w.arrival w.arrival w.first))
    ∙ sorted_first w.arrival (drop (l.handled + 1) l.table.waiting) (base_of l) true w.clean w.new

got_allowed : (l : LoopState) (w : IsGot l) → IsOfOther l.peer.game l.peer.me w.arrival → allowed l.peer.game l.peer.me (kept_of l) (Got w.arrival.player w.arrival.frame) ≡ true
unfolding allows
got_allowed l w o = and_from _ _ w.clean (and_from _ _ o w.new)

pub got_may : (items : List Item) (l : LoopState) (w : IsGot l) → l.handled < length l.table.waiting → IsTold items (view_of l) → slice_get l.peer.entries l.kept ≡ Some (Got w.arrival.player w.arrival.frame) → l.kept < length l.peer.entries →
    FitsEntry (Got w.arrival.player w.arrival.frame) → EachIs (IsOfOther l.peer.game l.peer.me) (rest_of l) → IsOfOther l.peer.game l.peer.me w.arrival → MayKeep items l (Got w.arrival.player w.arrival.frame)
got_may items l w lt told next more f each o = record {
  told = told;
  more = more;
  next = next;
  fits = f;
  each = each;
  may = ap (λ (v : View). may_keep_in v.phase v (Got w.arrival.player w.arrival.frame)) (got_view l w lt) ∙ ap (λ (p : Phase). may_keep_in p waits (Got w.arrival.player w.arrival.frame)) w.running
      ∙ and_from _ _ (got_allowed l w o) (and_from _ _ (ap (λ (x : Option TurnFrame). is_none x) w.made) (entry_same (Got w.arrival.player w.arrival.frame)));
}
  where
    waits : View
    waits = with_waiting (w.arrival ∷ drop (l.handled + 1) l.table.waiting) (base_of l)

-- it is kept: it waits no more
pub got_told : (items : List Item) (l : LoopState) (w : IsGot l) → l.handled < length l.table.waiting → MayKeep items l (Got w.arrival.player w.arrival.frame) →
    IsTold (items ++ keep_item D.Done (next_bytes l) ∷ []) (view_of (record l { kept = l.kept + 1; handled = l.handled + 1 }))
got_told items l w lt k =
    subst (λ (bytes : List ℕ). IsTold (items ++ Kept bytes ∷ []) (view_of m)) (sym (next_written l e k.next))
    (subst (IsTold (items ++ Kept (written (view_of l).writer e) ∷ []))
    (ap (λ (v : View). sorted_out (with_entry e v)) (got_view l w lt) ∙ sorted_any rest rest (more_kept e (base_of l)) ∙ ap (sorted rest) (sym (base_next l e k.more k.next)))
    (kept_tells items (view_of l) e k.told k.fits k.may))
  where
    e : Entry
    e = Got w.arrival.player w.arrival.frame

    rest : List Arrival
    rest = drop (l.handled + 1) l.table.waiting

    m : LoopState
    m = record l { kept = l.kept + 1; handled = l.handled + 1 }
