-- Fits: what holds of every loop still holds behind a change.
use Rattle.std.proofs.Common.{◌≡◌, ℕ, ◌+◌, ◌<◌, refl, sym, ap, subst, ◌∙◌, List, [], ◌∷◌, ◌++◌, arith, length}
use Rattle.std.specs.Prelude.{Some, slice_get}
use Rattle.std.specs.List.{fold}
use Rattle.std.proofs.lemmas.List.{length-append, take-append-le}
use Rattle.std.proofs.lemmas.List.Sums.{fold_push}
use Rattle.definitions.specs.Lists.{EachIs}
use Rattle.definitions.specs.declared.logs.Entry.{Entry}
use Rattle.session_log.specs.Writing.{Writing, fresh}
use Rattle.session_log.specs.Writing as W
use Rattle.socket_lines.specs.declared.seat.Seat.{Seat}
use Rattle.peer_rules.specs.declared.phases.Phase.{Phase}
use Rattle.peer_rules.specs.declared.phases.Phase.TheVariants.{KeepFault}
use Rattle.loop_rules.specs.Tables.{Table}
use Rattle.loop_rules.specs.Told.{HasNone, DiffersBy}
use Rattle.loop_rules.specs.Handling.{IsOfOther}
use Rattle.socket_table.specs.Staying.{SeatsSame}
use Rattle.socket_table.proofs.Seats.{same_each}
use Rattle.ready_loop.specs.States.{LoopState, IsFit, IsOthers, kept_of}
use Rattle.ready_loop.specs.Steps.{in_phase, with_table}
use Rattle.ready_loop.proofs.Kept.{take_next}
use Rattle.ready_loop.proofs.Heard.{others_same}

-- before a keep failed
pub fit_phase : (p : Phase) (l : LoopState) (w : Writing) → (l.phase ≡ KeepFault → ⊥) → IsFit l w → IsFit (in_phase p l) w
fit_phase p l w differs f = record { over = f.over; kept = f.kept; synced = f.synced; seats = f.seats; differ = f.differ; waiting = f.waiting; writer = λ n. f.writer differs }

-- from a phase that is none of a keep that failed
pub fit_from : (p q : Phase) (i l : LoopState) (w : Writing) → i ≡ l → l.phase ≡ q → (q ≡ KeepFault → ⊥) → IsFit i w → IsFit (in_phase p i) w
fit_from p q i l w same is differs f = fit_phase p i w (λ e. differs (sym is ∙ sym (ap (λ (x : LoopState). x.phase) same) ∙ e)) f

-- after a keep that failed
pub fit_fault : (l : LoopState) (w v : Writing) → IsFit l w → IsFit (in_phase KeepFault l) v
fit_fault l w v f = record { over = f.over; kept = f.kept; synced = f.synced; seats = f.seats; differ = f.differ; waiting = f.waiting; writer = λ n. absurd (n refl) }

pub fit_kept : (l : LoopState) (w v : Writing) (e : Entry) → l.kept < length l.peer.entries → slice_get l.peer.entries l.kept ≡ Some e → (l.phase ≡ KeepFault → ⊥) → v ≡ W.after w e → IsFit l w → IsFit (record l { kept = l.kept + 1 }) v
fit_kept l w v e lt g differs same f = record {
  over = f.over;
  kept = omega (arith, lt);
  synced = (let s = f.synced in omega (arith, s));
  seats = f.seats;
  differ = f.differ;
  waiting = f.waiting;
  writer = λ n. same ∙ ap (λ (x : Writing). W.after x e) (f.writer differs) ∙ sym (fold_push W.after start (kept_of l) e) ∙ ap (fold W.after start) (sym (take_next l.peer.entries l.kept e lt g));
}
  where
    start : Writing
    start = fresh l.peer.game.id l.peer.me

pub fit_synced : (l : LoopState) (w : Writing) → IsFit l w → IsFit (record l { synced = l.kept }) w
fit_synced l w f = record { over = f.over; kept = f.kept; synced = omega arith; seats = f.seats; differ = f.differ; waiting = f.waiting; writer = f.writer }

-- the peer has more entries
pub fit_grown : (l : LoopState) (w : Writing) (es more : List Entry) → es ≡ l.peer.entries ++ more → IsFit l w → IsFit (record l { peer = record l.peer { entries = es } }) w
fit_grown l w es more e f = subst (λ (xs : List Entry). IsFit (record l { peer = record l.peer { entries = xs } }) w) (sym e) (record {
  over = (let long = length-append l.peer.entries more in let o = f.over in omega (arith, long, o));
  kept = (let long = length-append l.peer.entries more in let k = f.kept in omega (arith, long, k));
  synced = f.synced;
  seats = f.seats;
  differ = f.differ;
  waiting = f.waiting;
  writer = λ n. f.writer n ∙ ap (fold W.after (fresh l.peer.game.id l.peer.me)) (sym (take-append-le l.kept l.peer.entries more f.kept));
})

pub fit_handled : (l : LoopState) (w : Writing) (n : ℕ) → IsFit l w → IsFit (record l { handled = n }) w
fit_handled l w n f = record { over = f.over; kept = f.kept; synced = f.synced; seats = f.seats; differ = f.differ; waiting = f.waiting; writer = f.writer }

none_same : (n : ℕ) (cs ds : List Seat) → SeatsSame cs ds → HasNone (λ c. c.link.player) n cs → HasNone (λ c. c.link.player) n ds
none_same n [] [] s h = tt
none_same n [] (d ∷ ds) s h = absurd s
none_same n (c ∷ cs) [] s h = absurd s
none_same n (c ∷ cs) (d ∷ ds) s h = ((λ e. h.0 (sym (ap (λ l. l.player) s.0.link) ∙ e)), none_same n cs ds s.1 h.1)

pub differ_same : (cs ds : List Seat) → SeatsSame cs ds → DiffersBy (λ c. c.link.player) cs → DiffersBy (λ c. c.link.player) ds
differ_same [] [] s d = tt
differ_same [] (y ∷ ds) s d = absurd s
differ_same (c ∷ cs) [] s d = absurd s
differ_same (c ∷ cs) (y ∷ ds) s d = (subst (λ (n : ℕ). HasNone (λ z. z.link.player) n ds) (sym (ap (λ l. l.player) s.0.link)) (none_same c.link.player cs ds s.1 d.0), differ_same cs ds s.1 d.1)

-- the table is another one
pub fit_put : (l : LoopState) (w : Writing) (t : Table) → EachIs (IsOthers l.peer.game l.peer.me) t.seats → DiffersBy (λ c. c.link.player) t.seats → EachIs (IsOfOther l.peer.game l.peer.me) t.waiting → IsFit l w → IsFit (with_table t l) w
fit_put l w t seats differ waiting f = record { over = f.over; kept = f.kept; synced = f.synced; seats = seats; differ = differ; waiting = waiting; writer = f.writer }

-- with the same seats, as far as they say who they are
pub fit_table : (l : LoopState) (w : Writing) (t : Table) → SeatsSame l.table.seats t.seats → EachIs (IsOfOther l.peer.game l.peer.me) t.waiting → IsFit l w → IsFit (with_table t l) w
fit_table l w t s waiting f =
    fit_put l w t (same_each (IsOthers l.peer.game l.peer.me) (others_same l.peer.game l.peer.me) l.table.seats t.seats s f.seats) (differ_same l.table.seats t.seats s f.differ) waiting f
