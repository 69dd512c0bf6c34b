-- ReadAll: sockets are read until nothing is there.
use Rattle.std.proofs.Common.{◌≡◌, ℕ, ◌+◌, ◌<◌, ◌≤◌, Bool, true, false, refl, sym, ap, subst, ◌∙◌, List, arith, length}
use Rattle.std.specs.Prelude.{Some, Ok, Err, not, ◌==◌, slice_get}
use Rattle.std.proofs.lemmas.Bool.{eqb-true, eqb-false, false≢true}
use Rattle.std.proofs.lemmas.Option.{slice_get_within}
use Rattle.socket_station.specs.Items.{Item}
use Rattle.socket_lines.specs.declared.line.Line.{Line}
use Rattle.loop_rules.specs.Tables.{Table}
use Rattle.loop_rules.specs.Rules.{wants_read}
use Rattle.loop_rules.specs.Told.{Differ}
use Rattle.socket_table.specs.Finding.{IsAt}
use Rattle.ready_loop.specs.declared.stops.Stop.{Stop}
use Rattle.ready_loop.specs.States.{LoopState}
use Rattle.ready_loop.specs.Going.{Goes}
use Rattle.ready_loop.specs.Handling.{SameSockets, Calm, WantsNone, IsReadyToRead, StandsHeard, Reads, ReadsOut, ReadsAll}
use Rattle.ready_loop.proofs.Going.{goes_still, goes_then}
use Rattle.ready_loop.proofs.Places.{there, two_sockets, all_places}

-- what the loop reads behind reads that found nothing against it
pub ready_on : (u : Unit {0}) (items : List Item) (m : LoopState) (before : List Item) (l : LoopState) → Goes before items l m → StandsHeard (Ok u) m → IsReadyToRead items m
ready_on u items m before l g w = record { told = g.told; steady = w.0; clean = w.1 }

calm_then : (s : ℕ) (t u v : Table) → SameSockets t u → Calm s t u → Calm s u v → Calm s t v
calm_then s t u v e a b k x y g h n wants =
    let z = there t u k x e g in
    a k x z.0 g z.1 n (b k z.0 y z.1 h (λ q. n (sym z.2 ∙ q)) wants)

-- ---- one socket

pub record ReadingOut (s : ℕ) (before items : List Item) (l m : LoopState) : Type 0 where
  pub goes : Goes before items l m
  pub ready : IsReadyToRead items m
  pub sockets : SameSockets l.table m.table
  pub calm : Calm s l.table m.table

pub out_first : (s : ℕ) (items : List Item) (l : LoopState) → IsReadyToRead items l → ReadingOut s items items l l
out_first s items l w = record { goes = goes_still items l w.told; ready = w; sockets = refl; calm = λ k x y g h n wants. subst (λ (z : Line). wants_read l.table z ≡ true) (let e : Some y ≡ Some x = sym h ∙ g in let q : y ≡ x = cc in q) wants }

pub out_on : (u : Unit {0}) (k s : ℕ) (before items after : List Item) (l m n : LoopState) → ReadingOut s before items l m → Reads (Ok u) k s items after m n → ReadingOut s before after l n
out_on u k s before items after l m n w r = record {
  goes = goes_then before items after l m n w.goes r.goes;
  ready = ready_on u after n items m r.goes r.stands;
  sockets = r.sockets ∙ w.sockets;
  calm = calm_then s l.table m.table n.table w.sockets w.calm r.calm;
}

pub out_stops : (stop : Stop) (k s : ℕ) (before items after : List Item) (l m n : LoopState) → ReadingOut s before items l m → Reads (Err stop) k s items after m n → ReadsOut (Err stop) k s before after l n
out_stops stop k s before items after l m n w r = record {
  goes = goes_then before items after l m n w.goes r.goes;
  stands = r.stands;
  sockets = r.sockets ∙ w.sockets;
  calm = calm_then s l.table m.table n.table w.sockets w.calm r.calm;
  out = tt;
}

pub out_ends : (k s : ℕ) (before items : List Item) (l m : LoopState) → ReadingOut s before items l m → WantsNone m.table k → ReadsOut (Ok tt) k s before items l m
out_ends k s before items l m w none = record { goes = w.goes; stands = (w.ready.steady, w.ready.clean); sockets = w.sockets; calm = w.calm; out = none }

-- ---- all of them

pub record ReadingAll (i : ℕ) (before items : List Item) (l m : LoopState) : Type 0 where
  pub goes : Goes before items l m
  pub ready : IsReadyToRead items m
  pub sockets : SameSockets l.table m.table
  pub out : (k : ℕ) → k < i → WantsNone m.table k

pub all_first : (items : List Item) (l : LoopState) → IsReadyToRead items l → ReadingAll 0 items items l l
all_first items l w = record { goes = goes_still items l w.told; ready = w; sockets = refl; out = λ k lt. absurd (omega (arith, lt)) }

not_wanted : (b : Bool) → (b ≡ true → ⊥) → b ≡ false
not_wanted true n = absurd (n refl)
not_wanted false n = refl

pub all_on : (u : Unit {0}) (i s : ℕ) (before items after : List Item) (l m n : LoopState) → ReadingAll i before items l m → Differ m.table.lines → IsAt m.table i s → ReadsOut (Ok u) i s items after m n → ReadingAll (i + 1) before after l n
all_on u i s before items after l m n w d at r = record {
  goes = goes_then before items after l m n w.goes r.goes;
  ready = ready_on u after n items m r.goes r.stands;
  sockets = r.sockets ∙ w.sockets;
  out = λ k lt. go k lt (k == i) refl;
}
  where
    earlier : (k : ℕ) → k < i → (y : Line) → slice_get n.table.lines k ≡ Some y → wants_read n.table y ≡ false
    earlier k lt y h =
        let x = there n.table m.table k y (sym r.sockets) h in
        not_wanted (wants_read n.table y) (λ wants. false≢true (sym (w.out k lt x.0 x.1) ∙ r.calm k x.0 y x.1 h (λ e. two_sockets m.table.lines k i x.0 at.0 d x.1 at.1 (λ q. (let z = q in omega (arith, z, lt))) (e ∙ sym at.2)) wants))

    go : (k : ℕ) → k < i + 1 → (b : Bool) → (k == i) ≡ b → WantsNone n.table k
    go k lt true e y h = r.out y (ap (slice_get n.table.lines) (sym (eqb-true k i e)) ∙ h)
    go k lt false e y h = earlier k (let q = eqb-false k i e in omega (arith, q, lt)) y h

pub all_stops : (stop : Stop) (i s : ℕ) (before items after : List Item) (l m n : LoopState) → ReadingAll i before items l m → ReadsOut (Err stop) i s items after m n → ReadsAll (Err stop) before after l n
all_stops stop i s before items after l m n w r = record { goes = goes_then before items after l m n w.goes r.goes; stands = r.stands; out = tt }

pub all_ends : (i : ℕ) (before items : List Item) (l m : LoopState) → ReadingAll i before items l m → length m.table.lines ≤ i → ReadsAll (Ok tt) before items l m
all_ends i before items l m w le = record {
  goes = w.goes;
  stands = (w.ready.steady, w.ready.clean);
  out = all_places (λ x. not (wants_read m.table x)) m.table.lines (λ k x g. ap not (w.out k (let lt = slice_get_within m.table.lines k x g in omega (arith, lt, le)) x g));
}
