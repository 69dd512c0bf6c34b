-- Going: a history goes on item by item, and call by call.
use Rattle.std.proofs.Common.{◌≡◌, ℕ, ◌+◌, true, refl, sym, ap, subst, ◌∙◌, List, [], ◌∷◌, ◌++◌, append_assoc, append-nil, arith}
use Rattle.socket_station.specs.Items.{Item}
use Rattle.socket_station.specs.Standings.{OpensNew}
use Rattle.deposit_rules.specs.Views.{Setting, View, start}
use Rattle.deposit_rules.specs.After as A
use Rattle.deposit_rules.specs.Rules.{is_allowed}
use Rattle.deposit_rules.specs.Laws.{AreTold}
use Rattle.live_deposit.specs.Told.{IsTold, Stands}
use Rattle.live_deposit.specs.Going.{Goes, GoesBy, Grew, poll_count, polls_of}

-- ---- what is told

shown_more : (items : List Item) (v : View) (item : Item) → A.view_after v (items ++ item ∷ []) ≡ A.after (A.view_after v items) item
shown_more [] v item = refl
shown_more (first ∷ items) v item = shown_more items (A.after v first) item

told_added : (log : List ℕ) (v : View) (before items : List Item) (item : Item) → AreTold log v before items → OpensNew (before ++ items) item → is_allowed log (A.view_after v items) item ≡ true → AreTold log v before (items ++ item ∷ [])
told_added log v before [] item told new may = (subst (λ (xs : List Item). OpensNew xs item) (append-nil before) new, may, tt)
told_added log v before (first ∷ items) item told new may =
    let on = subst (λ (xs : List Item). OpensNew xs item) (sym (append_assoc before (first ∷ []) items)) new in
    (told.0, told.1, told_added log (A.after v first) (before ++ first ∷ []) items item told.2 on may)

-- by an item that is allowed
pub told_on : (log : List ℕ) (before after : List Item) (v w : View) (item : Item) → IsTold log before v → OpensNew before item → is_allowed log v item ≡ true → after ≡ before ++ item ∷ [] → w ≡ A.after v item → w.setting ≡ v.setting → IsTold log after w
told_on log before after v w item told new may on is set = subst (λ (xs : List Item). IsTold log xs w) (sym on) (record {
  told = subst (λ (s : Setting). AreTold log (start s) [] (before ++ item ∷ [])) (sym set) (told_added log (start v.setting) [] before item told.told new (ap (λ (x : View). is_allowed log x item) told.shown ∙ may));
  shown = ap (λ (s : Setting). A.view_of s (before ++ item ∷ [])) set ∙ shown_more before (start v.setting) item ∙ ap (λ (x : View). A.after x item) told.shown ∙ sym is;
})

-- ---- how the history grew

pub polls_join : (a b : List Item) → polls_of (a ++ b) ≡ polls_of a + polls_of b
polls_join [] b = omega arith
polls_join (item ∷ a) b = let r = polls_join a b in omega (arith, r)

pub grew_one : (count : ℕ) (before after : List Item) (item : Item) (v w : View) → poll_count item ≡ count → after ≡ before ++ item ∷ [] → w.setting ≡ v.setting → Stands after w → Grew count before after (item ∷ []) v w
grew_one count before after item v w n on set stands = record { grown = on; polls = (let m = n in omega (arith, m)); setting = set; stands = stands }

pub grew_still : (items : List Item) (v : View) → Stands items v → Grew 0 items items [] v v
grew_still items v stands = record { grown = sym (append-nil items); polls = refl; setting = refl; stands = stands }

pub grew_then : (m n k : ℕ) (a b c x y : List Item) (u v w : View) → m + n ≡ k → Grew m a b x u v → Grew n b c y v w → Grew k a c (x ++ y) u w
grew_then m n k a b c x y u v w sum g h = record {
  grown = h.grown ∙ ap (λ (items : List Item). items ++ y) g.grown ∙ append_assoc a x y;
  polls = (let j = polls_join x y in let p = g.polls in let q = h.polls in omega (arith, j, p, q, sum));
  setting = h.setting ∙ g.setting;
  stands = h.stands;
}

-- ---- calls that no log decides

pub goes_one : (count : ℕ) (before after : List Item) (item : Item) (v w : View) → OpensNew before item → ((log : List ℕ) → is_allowed log v item ≡ true) → poll_count item ≡ count → after ≡ before ++ item ∷ [] → w ≡ A.after v item → w.setting ≡ v.setting → Stands after w →
    GoesBy count before after v w
goes_one count before after item v w new may n on is set stands = record {
  more = item ∷ [];
  grew = grew_one count before after item v w n on set stands;
  told = λ log told. told_on log before after v w item told new (may log) on is set;
}

pub goes_still : (items : List Item) (v : View) → Stands items v → Goes items items v v
goes_still items v stands = record { more = []; grew = grew_still items v stands; told = λ log told. told }

pub goes_then : (a b c : List Item) (u v w : View) → Goes a b u v → Goes b c v w → Goes a c u w
goes_then a b c u v w g h = record {
  more = g.more ++ h.more;
  grew = grew_then 0 0 0 a b c g.more h.more u v w refl g.grew h.grew;
  told = λ log told. h.told log (g.told log told);
}
