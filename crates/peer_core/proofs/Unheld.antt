-- Unheld: who keeps a turn from being settled is who would be waited for in it, if no commitment that isn't opened were held.
use Rattle.std.proofs.Common.{◌≡◌, ℕ, zero, suc, ◌+◌, ◌<◌, Bool, true, false, List, [], ◌∷◌, ◌++◌, length, refl, sym, ap, ◌∙◌, arith, replicate}
use Rattle.std.specs.Prelude.{is_some, not, nat_lt, ◌&&◌, ◌||◌, ◌==◌, filter, flat_map, map, slice_get, slice_set, if◌then◌else◌}
use Rattle.std.specs.List.{list_all, range_with_len}
use Rattle.std.proofs.lemmas.Bool.{eq-eqb, false≢true, le-ltb, lt-ltb}
use Rattle.std.proofs.lemmas.Bool.Decides.{nat_tests}
use Rattle.definitions.specs.declared.world.Cell.{Cell}
use Rattle.definitions.specs.declared.logs.Entry.{Entry}
use Rattle.definitions.specs.declared.answers.Need.{Need}
use Rattle.definitions.specs.Lists.{item_or, is_empty}
use Rattle.definitions.specs.World.{Game, players_of}
use Rattle.definitions.specs.Held.{known, resolved}
use Rattle.definitions.specs.Meets.{cell_before, meets}
use Rattle.definitions.specs.Honest.{lets_commit, others}
use Rattle.dilation.specs.Dilated.{cell_of}
use Rattle.dilation.proofs.Items.{map_set}
use Rattle.definition_laws.specs.Distances.{last_cell}
use Rattle.wait_rule.specs.declared.views.View.{View}
use Rattle.wait_rule.specs.declared.views.Stage.{Stage}
use Rattle.wait_rule.specs.declared.views.Stage.TheVariants.{Reveal}
use Rattle.wait_rule.specs.Shown.{AreLastCells, AreViews, IsView}
use Rattle.wait_rule.specs.Waiting.{hinders, meets_at, need_in, need_of, needs_of, no_view}
use Rattle.wait_rule.proofs.Hindering.{meets_is}
use Rattle.wait_rule.proofs.ForPeers.{item_map}
use Rattle.peer_core.specs.Settling.{unheld}

-- ---- tables

map_same : {X Y : Type 0} (f : X → Y) (n : ℕ) (x : X) → map f (replicate n x) ≡ replicate n (f x)
map_same f zero x = refl
map_same f (suc n) x = ap (λ ys. f x ∷ ys) (map_same f n x)

-- where nothing is known no commitment is held
pub unheld_blank : (n : ℕ) (vs us : List View) → vs ≡ replicate n no_view → us ≡ replicate n no_view → us ≡ map unheld vs
unheld_blank n vs us is are = are ∙ sym (map_same unheld n no_view) ∙ ap (λ (xs : List View). map unheld xs) (sym is)

-- one view more
pub unheld_set : (vs us : List View) (i : ℕ) (v u : View) → us ≡ map unheld vs → u ≡ unheld v → slice_set us i u ≡ map unheld (slice_set vs i v)
unheld_set vs us i v u is at = ap (λ (xs : List View). slice_set xs i u) is ∙ ap (λ (x : View). slice_set (map unheld vs) i x) at ∙ sym (map_set unheld vs i v)

-- ---- whom the owner would wait for

some_is : {X : Type 0} (xs : List X) (t : ℕ) → nat_lt t (length xs) ≡ is_some (slice_get xs t)
some_is [] t = le-ltb t 0 (omega arith)
some_is (x ∷ xs) zero = lt-ltb 0 (length (x ∷ xs)) (omega arith)
some_is (x ∷ xs) (suc t) = next t (length xs) ∙ some_is xs t
  where
    next : (m n : ℕ) → nat_lt (suc m) (suc n) ≡ nat_lt m n
    next m n = grind (arith, nat_tests)

hinders_unless : (r m : Bool) → (not r && m) ≡ not (r || not m)
hinders_unless true true = refl
hinders_unless true false = refl
hinders_unless false true = refl
hinders_unless false false = refl

hinders_is : (game : Game) (me q t : ℕ) (h : List Entry) (at from : Cell) (v : View) → at ≡ cell_before game me h me t → IsView game me h q v → from ≡ last_cell game me h q →
    hinders game me (Reveal t at) q (unheld v) from ≡ not (lets_commit game me h t q)
hinders_is game me q t h at from v a shown f =
    ap (λ (b : Bool). not b && meets_at game me at q v.resolved from t) (ap (nat_lt t) shown.resolved_is ∙ some_is (known game me h q).moves t)
    ∙ ap (λ (b : Bool). not (is_some (resolved game me h q t)) && b) (meets_is game me q t v.resolved h at from a shown.resolved_is f)
    ∙ hinders_unless (is_some (resolved game me h q t)) (meets game me h q t)

-- no need is listed exactly where each other player passes
none_listed : (game : Game) (me : ℕ) (stage : Stage) (views : List View) (cells : List Cell) (passes : ℕ → Bool) (n a : ℕ) →
    ((q : ℕ) → q < a + n → (q ≡ me → ⊥) → hinders game me stage q (item_or views q no_view) (cell_of cells q) ≡ not (passes q)) →
    is_empty (flat_map (need_in game me stage views cells) (range_with_len a n)) ≡ list_all passes (filter (λ q. not (q == me)) (range_with_len a n))
none_listed game me stage views cells passes zero a each = refl
none_listed game me stage views cells passes (suc n) a each = go (a == me) refl (none_listed game me stage views cells passes n (a + 1) (λ q lt. each q (omega arith)))
  where
    rest : List Need
    rest = flat_map (need_in game me stage views cells) (range_with_len (a + 1) n)

    after : List ℕ
    after = filter (λ q. not (q == me)) (range_with_len (a + 1) n)

    one : (hinder pass : Bool) → hinder ≡ not pass → is_empty rest ≡ list_all passes after →
        is_empty ((if hinder then need_of game stage a (item_or views a no_view) ∷ [] else []) ++ rest) ≡ (pass && list_all passes after)
    one true true e ih = absurd (false≢true (sym e))
    one true false e ih = refl
    one false true e ih = ih
    one false false e ih = absurd (false≢true e)

    go : (b : Bool) → (a == me) ≡ b → is_empty rest ≡ list_all passes after →
        is_empty ((if b then [] else if hinders game me stage a (item_or views a no_view) (cell_of cells a) then need_of game stage a (item_or views a no_view) ∷ [] else []) ++ rest)
        ≡ list_all passes (if not b then a ∷ after else after)
    go true is ih = ih
    go false is ih =
        one (hinders game me stage a (item_or views a no_view) (cell_of cells a)) (passes a) (each a (omega arith) (λ e. false≢true (sym is ∙ eq-eqb a me e))) ih

-- the reveal of the turn would wait for no one exactly where all let the owner commit to the turn that waits for it
pub unheld_lets : (game : Game) (me t : ℕ) (h : List Entry) (at : Cell) (views unhelds : List View) (cells : List Cell) (needs : List Need) → AreViews game me h views → unhelds ≡ map unheld views →
    AreLastCells game me h cells → at ≡ cell_before game me h me t → needs ≡ needs_of game me (Reveal t at) unhelds cells → is_empty needs ≡ list_all (lets_commit game me h t) (others game me)
unfolding needs_of others
unheld_lets game me t h at views unhelds cells needs shown are seen here is =
    ap (λ (ns : List Need). is_empty ns) (is ∙ ap (λ (vs : List View). needs_of game me (Reveal t at) vs cells) are)
    ∙ none_listed game me (Reveal t at) (map unheld views) cells (lets_commit game me h t) (players_of game) 0
    (λ q lt other. let below : q < players_of game = omega arith in
    ap (λ (v : View). hinders game me (Reveal t at) q v (cell_of cells q)) (item_map unheld views q no_view)
    ∙ hinders_is game me q t h at (cell_of cells q) (item_or views q no_view) here (shown q below other) (seen q below other))
