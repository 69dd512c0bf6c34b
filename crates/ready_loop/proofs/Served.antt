-- Served: one call on a socket, and what is so behind it.
use Rattle.std.proofs.Common.{◌≡◌, ℕ, zero, suc, ◌+◌, ◌<◌, ◌≤◌, Bool, true, false, refl, sym, ap, subst, ◌∙◌, List, [], ◌∷◌, ◌++◌, arith, length}
use Rattle.std.specs.Prelude.{Option, Some, None, not, ◌==◌, map, slice_get, if◌then◌else◌}
use Rattle.std.specs.List.{count_by}
use Rattle.std.proofs.lemmas.Bool.{eq-eqb, eqb-true, eqb-false, false≢true, and_from}
use Rattle.std.proofs.lemmas.Option.{slice_get_within}
use Rattle.socket_station.specs.declared.answers.Standing.TheVariants.{Open}
use Rattle.socket_station.specs.Standings.{OpensNew, standing_in}
use Rattle.socket_station.specs.Items.{Item, Shut}
use Rattle.socket_lines.specs.declared.line.Line.{Line}
use Rattle.socket_lines.specs.Lines.{closed}
use Rattle.loop_rules.specs.Tables.{Table, at_line, line_of, asks_shut}
use Rattle.loop_rules.specs.Rules.{is_allowed, may_shut_line}
use Rattle.loop_rules.specs.After as A
use Rattle.loop_rules.specs.Told.{Differ, LineStands, IsTold}
use Rattle.loop_rules.proofs.Told.{told_goes_on}
use Rattle.socket_table.specs.Finding.{IsAt}
use Rattle.socket_table.specs.Staying.{Milder}
use Rattle.socket_list.proofs.Keys.{found_at}
use Rattle.socket_list.proofs.Pairs.{map_at}
use Rattle.socket_table.proofs.Milder.{milder, milder_then, closed_milder}
use Rattle.ready_loop.specs.States.{LoopState, base_of, view_of}
use Rattle.ready_loop.specs.Steps.{with_table}
use Rattle.ready_loop.specs.Going.{Goes, IsIdle, poll_count}
use Rattle.ready_loop.specs.Serving.{IsServing, Serves, Shuts, ShutsAll}
use Rattle.ready_loop.proofs.Going.{goes_one, goes_still, goes_then}
use Rattle.ready_loop.proofs.Idle.{still_view, idle_view, serves_on}
use Rattle.ready_loop.proofs.Places.{all_places}
use Rattle.socket_list.proofs.Lists.{each_at}

-- one call was made that the rules allow, and the table is this one behind it
pub record OneCall (before : List Item) (item : Item) (l : LoopState) (u : Table) : Type 0 where
  pub still : poll_count item ≡ 0
  pub opens : OpensNew before item
  pub allowed : is_allowed (base_of l) item ≡ true
  pub shows : A.after (base_of l) item ≡ record (base_of l) { table = u }
  pub waiting : u.waiting ≡ l.table.waiting
  pub undialled : count_by (λ c. not c.is_dialled) u.seats ≤ count_by (λ c. not c.is_dialled) l.table.seats

pub call_goes : (before after : List Item) (item : Item) (l m : LoopState) (u : Table) → IsTold before (view_of l) → IsIdle l → OneCall before item l u → after ≡ before ++ item ∷ [] → m ≡ with_table u l → Goes before after l m
call_goes before after item l m u told w c on same =
    subst (λ (x : LoopState). Goes before after l x) (sym same)
    (goes_one before after item l (with_table u l) on c.still c.opens refl c.undialled
    (subst (IsTold (before ++ item ∷ [])) (c.shows ∙ sym (still_view (with_table u l) (c.waiting ∙ w.waiting) w.handled))
    (told_goes_on before (base_of l) item (subst (IsTold before) (idle_view l w) told) c.opens c.allowed)) refl)

pub call_serves : (before after : List Item) (item : Item) (l m : LoopState) (u : Table) → IsServing before l → OneCall before item l u → Milder l.table u → after ≡ before ++ item ∷ [] → m ≡ with_table u l → Serves before after l m
call_serves before after item l m u w c mild on same =
    subst (λ (x : LoopState). Serves before after l x) (sym same) (record {
      goes = subst (λ (x : LoopState). Goes before after l x) same (call_goes before after item l m u w.told w.steady.idle c on same);
      same = refl;
      milder = mild;
      waiting = c.waiting;
    })

pub serves_still : (items : List Item) (l : LoopState) → IsTold items (view_of l) → Serves items items l l
serves_still items l told = record { goes = goes_still items l told; same = refl; milder = milder l.table; waiting = refl }

pub serves_then : (a b c : List Item) (l m n : LoopState) → Serves a b l m → Serves b c m n → Serves a c l n
serves_then a b c l m n g h = record {
  goes = goes_then a b c l m n g.goes h.goes;
  same = h.same ∙ ap (with_table n.table) g.same;
  milder = milder_then l.table m.table n.table g.milder h.milder;
  waiting = h.waiting ∙ g.waiting;
}

-- what held before the calls holds behind them
pub serving_on : (before after : List Item) (l m : LoopState) → IsServing before l → Serves before after l m → IsServing after m
serving_on before after l m w g =
    subst (IsServing after) (sym g.same) (record {
      told = subst (λ (x : LoopState). IsTold after (view_of x)) g.same g.goes.told;
      steady = record { idle = record { running = w.steady.idle.running; kept = w.steady.idle.kept; waiting = g.waiting ∙ w.steady.idle.waiting; handled = w.steady.idle.handled }; made = w.steady.made };
      clean = w.clean;
      synced = w.synced;
    })

-- ---- shutting

-- an open line's socket is open
pub stands_open : (items : List Item) (l : LoopState) (k s : ℕ) (x : Line) → IsTold items (view_of l) → IsIdle l → slice_get l.table.lines k ≡ Some x → x.socket ≡ s → x.is_open ≡ true → standing_in items s ≡ Open
stands_open items l k s x told w g e o =
    let stands = each_at (LineStands items) l.table.lines k x (subst (IsTold items) (idle_view l w) told).stand g in
    ap (standing_in items) (sym e) ∙ stands.opened o

pub lines_differ : (items : List Item) (l : LoopState) → IsTold items (view_of l) → IsIdle l → Differ l.table.lines
lines_differ items l told w = (subst (IsTold items) (idle_view l w) told).differ

pub line_found : (items : List Item) (l : LoopState) (k s : ℕ) (x : Line) → IsTold items (view_of l) → IsIdle l → slice_get l.table.lines k ≡ Some x → x.socket ≡ s → line_of l.table s ≡ Some x
line_found items l k s x told w g e = found_at (λ y. y.socket) s l.table.lines k x (lines_differ items l told w) g e

pub shuts : (k s : ℕ) (before after : List Item) (l m : LoopState) (x : Line) → IsServing before l → slice_get l.table.lines k ≡ Some x → x.socket ≡ s → asks_shut l.table x ≡ true → after ≡ before ++ Shut s ∷ [] → m ≡ with_table (at_line s closed l.table) l → Shuts s before after l m
shuts k s before after l m x w g e asks on same = record {
  serves = call_serves before after (Shut s) l m (at_line s closed l.table) w (record {
    still = refl;
    opens = tt;
    allowed = ap (may_shut_line (base_of l)) (line_found before l k s x w.told w.steady.idle g e) ∙ and_from _ _ (serves_on l w.steady.idle w.clean) asks;
    shows = refl;
    waiting = refl;
    undialled = omega arith;
  }) (closed_milder s l.table) on same;
  table = ap (λ (y : LoopState). y.table) same;
}

pub record ShuttingAll (i : ℕ) (before items : List Item) (l m : LoopState) : Type 0 where
  pub serves : Serves before items l m
  pub serving : IsServing items m
  pub shut : (k : ℕ) → k < i → (x : Line) → slice_get m.table.lines k ≡ Some x → asks_shut m.table x ≡ false

pub shut_first : (items : List Item) (l : LoopState) → IsServing items l → ShuttingAll 0 items items l l
shut_first items l w = record { serves = serves_still items l w.told; serving = w; shut = λ k lt. absurd (omega (arith, lt)) }

-- the socket at the place is shut already, or no one asks for it
pub shut_passed : (i : ℕ) (before items : List Item) (l m : LoopState) → ShuttingAll i before items l m → ((x : Line) → slice_get m.table.lines i ≡ Some x → asks_shut m.table x ≡ false) → ShuttingAll (i + 1) before items l m
shut_passed i before items l m w none = record { serves = w.serves; serving = w.serving; shut = λ k lt. go k lt (k == i) refl }
  where
    go : (k : ℕ) → k < i + 1 → (b : Bool) → (k == i) ≡ b → (x : Line) → slice_get m.table.lines k ≡ Some x → asks_shut m.table x ≡ false
    go k lt true e x g = none x (ap (slice_get m.table.lines) (sym (eqb-true k i e)) ∙ g)
    go k lt false e x g = w.shut k (let q = eqb-false k i e in omega (arith, q, lt)) x g

closed_at : (s : ℕ) (t : Table) (k : ℕ) (y : Line) → slice_get (at_line s closed t).lines k ≡ Some y → ((x : Line) → slice_get t.lines k ≡ Some x → (x.socket ≡ s → ⊥) → asks_shut t x ≡ false) → asks_shut (at_line s closed t) y ≡ false
closed_at s t k y h others = go (slice_get t.lines k) refl
  where
    go : (o : Option Line) → slice_get t.lines k ≡ o → asks_shut (at_line s closed t) y ≡ false
    go None e = absurd (let long = slice_get_within (at_line s closed t).lines k y h in none_there t.lines k e long)
      where
        none_there : (ls : List Line) (j : ℕ) → slice_get ls j ≡ None → j < length (map (λ l. if l.socket == s then closed l else l) ls) → ⊥
        none_there [] j n lt = omega (arith, lt)
        none_there (l ∷ ls) zero n lt = (let q : Some l ≡ None = n in cc)
        none_there (l ∷ ls) (suc j) n lt = none_there ls j n (omega (arith, lt))
    go (Some x) e = subst (λ (z : Line). asks_shut (at_line s closed t) z ≡ false) (sym is) (at (x.socket == s) refl)
      where
        is : y ≡ (if x.socket == s then closed x else x)
        is = let q : Some y ≡ Some (if x.socket == s then closed x else x) = sym h ∙ map_at (λ l. if l.socket == s then closed l else l) t.lines k x e in cc

        at : (b : Bool) → (x.socket == s) ≡ b → asks_shut (at_line s closed t) (if b then closed x else x) ≡ false
        at true q = refl
        at false q = others x e (λ z. false≢true (sym q ∙ eq-eqb x.socket s z))

pub shut_on : (i s : ℕ) (before items after : List Item) (l m n : LoopState) → ShuttingAll i before items l m → IsAt m.table i s → Shuts s items after m n → ShuttingAll (i + 1) before after l n
shut_on i s before items after l m n w at g = record {
  serves = serves_then before items after l m n w.serves g.serves;
  serving = serving_on items after m n w.serving g.serves;
  shut = λ k lt. subst (λ (t : Table). (x : Line) → slice_get t.lines k ≡ Some x → asks_shut t x ≡ false) (sym g.table) (λ y h. closed_at s m.table k y h (λ x there differs. w.shut k (earlier k lt x there differs) x there));
}
  where
    earlier : (k : ℕ) → k < i + 1 → (x : Line) → slice_get m.table.lines k ≡ Some x → (x.socket ≡ s → ⊥) → k < i
    earlier k lt x there differs = go (k == i) refl
      where
        go : (b : Bool) → (k == i) ≡ b → k < i
        go true e = absurd (differs (ap (λ (z : Line). z.socket) (let q : Some x ≡ Some at.0 = sym there ∙ ap (slice_get m.table.lines) (eqb-true k i e) ∙ at.1 in let r : x ≡ at.0 = cc in r) ∙ at.2))
        go false e = (let q = eqb-false k i e in omega (arith, q, lt))

pub shut_ends : (i : ℕ) (before items : List Item) (l m : LoopState) → ShuttingAll i before items l m → length m.table.lines ≤ i → ShutsAll before items l m
shut_ends i before items l m w le = record {
  serves = w.serves;
  shut = all_places (λ x. not (asks_shut m.table x)) m.table.lines (λ k x g. ap not (w.shut k (let lt = slice_get_within m.table.lines k x g in omega (arith, lt, le)) x g));
}
