-- Hindering: where what is known of the players is what a log shows, those who hinder are those whom the log's owner needs.
use Rattle.std.proofs.Common.{◌≡◌, ℕ, zero, suc, ◌+◌, ◌-◌, ◌≤◌, Bool, true, false, List, [], ◌∷◌, ◌++◌, length, length-append, get_or, refl, sym, ap, ◌∙◌, arith}
use Rattle.std.specs.Prelude.{not, ◌&&◌, ◌||◌, ◌==◌, flat_map, is_some, nat_le, nat_lt, slice_get, if◌then◌else◌}
use Rattle.std.specs.List.{range_with_len}
use Rattle.std.proofs.lemmas.Bool.{and_parts, leb-true, le-leb, le-ltb, lt-ltb, ltb-false, ltb-true, false≢true}
use Rattle.std.proofs.lemmas.Bool.Decides.{nat_tests}
use Rattle.definitions.specs.declared.world.Cell.{Cell}
use Rattle.definitions.specs.declared.frames.What.{What}
use Rattle.definitions.specs.declared.frames.What.TheVariants as F
use Rattle.definitions.specs.declared.answers.Need.{Need}
use Rattle.definitions.specs.declared.logs.Entry.{Entry}
use Rattle.definitions.specs.Lists.{item_or}
use Rattle.definitions.specs.World.{Game, players_of}
use Rattle.definitions.specs.Held.{known, held, resolved, resolved_count}
use Rattle.definitions.specs.Meets.{meets, cell_before}
use Rattle.definitions.specs.Honest.{others, lets_commit, lets_reveal}
use Rattle.definitions.specs.Needs as N
use Rattle.definitions.proofs.Items.{item_is}
use Rattle.dilation.specs.Dilated.{cell_of}
use Rattle.wait_rule.specs.declared.views.View.{View}
use Rattle.wait_rule.specs.declared.views.Stage.{Stage}
use Rattle.wait_rule.specs.declared.views.Stage.TheVariants.{Commit, Reveal, After}
use Rattle.wait_rule.specs.Waiting.{waits, no_view, meets_at, holds, hinders, need_of, need_if, need_in, needs_of}
use Rattle.definition_laws.specs.Distances.{last_cell}
use Rattle.wait_rule.specs.Shown.{IsView, AreViews, AreLastCells, slot_of, StandsThere, IsStageOf}
use Rattle.wait_rule.specs.declared.meeting.Meeting.{Meeting}
use Rattle.wait_rule.specs.Spheres.{Stays}
use Rattle.plain_lemmas.proofs.Lists.{flat_more}
use Rattle.wait_rule.proofs.Lists.{steps_are, step_few}

some_is : {X : Type 0} (xs : List X) (t : ℕ) → is_some (slice_get xs t) ≡ nat_lt t (length xs)
some_is [] t = sym (le-ltb t 0 (omega arith))
some_is (x ∷ xs) zero = sym (lt-ltb 0 (length (x ∷ xs)) (omega arith))
some_is (x ∷ xs) (suc t) = let ih = some_is xs t in ih ∙ next t (length xs)
  where
    next : (m n : ℕ) → nat_lt m n ≡ nat_lt (suc m) (suc n)
    next m n = grind (arith, nat_tests)

-- a player meets the owner by the cells at which they were last seen
pub meets_is : (game : Game) (me q t resolved : ℕ) (h : List Entry) (at from : Cell) → at ≡ cell_before game me h me t → resolved ≡ resolved_count game me h q → from ≡ last_cell game me h q →
    meets_at game me at q resolved from t ≡ meets game me h q t
unfolding meets
meets_is game me q t resolved h at from a r f =
    ap (λ c. meets_at game me c q resolved from t) a ∙ ap (λ n. meets_at game me (cell_before game me h me t) q n from t) r
    ∙ ap (λ c. meets_at game me (cell_before game me h me t) q (resolved_count game me h q) c t) f

-- who meets isn't resolved
meets_later : (game : Game) (me q t : ℕ) (h : List Entry) → meets game me h q t ≡ true → resolved_count game me h q ≤ t
unfolding meets
meets_later game me q t h is = leb-true _ _ (and_parts (nat_le (resolved_count game me h q) t) _ is).0

hinders_commit : (game : Game) (me q t : ℕ) (h : List Entry) → meets game me h q t ≡ not (lets_commit game me h t q)
hinders_commit game me q t h =
    by_tests (is_some (resolved game me h q t)) (meets game me h q t)
    (λ is. let le = meets_later game me q t h is in some_is (known game me h q).moves t ∙ grind (arith, nat_tests))
  where
    by_tests : (r m : Bool) → (m ≡ true → r ≡ false) → m ≡ not (r || not m)
    by_tests true true only = only refl
    by_tests true false only = refl
    by_tests false true only = refl
    by_tests false false only = refl

hinders_reveal : (game : Game) (me q t : ℕ) (h : List Entry) (v : View) → IsView game me h q v → (not (holds v t) && meets game me h q t) ≡ not (lets_reveal game me h t q)
hinders_reveal game me q t h v shown =
    by_tests (holds v t) (is_some (held game me h q t)) (meets game me h q t)
    (λ is. ap (nat_lt t) shown.commits_is ∙ sym (some_is (known game me h q).digests t))
  where
    by_tests : (k d m : Bool) → (m ≡ true → k ≡ d) → (not k && m) ≡ not (d || not m)
    by_tests true true m same = refl
    by_tests true false true same = absurd (false≢true (sym (same refl)))
    by_tests true false false same = refl
    by_tests false true true same = absurd (false≢true (same refl))
    by_tests false true false same = refl
    by_tests false false true same = refl
    by_tests false false false same = refl

not_not : (b : Bool) → b ≡ not (not b)
not_not true = refl
not_not false = refl

-- the player doesn't keep the owner from the stage's frame
abbrev lets : Game → ℕ → List Entry → Stage → ℕ → Bool
lets game me h (Commit t last) q = lets_commit game me h (t - game.ahead) q
lets game me h (Reveal t at) q = lets_reveal game me h t q
lets game me h After q = N.is_done game me h q

-- the turn of what is missing, and which frame
abbrev turn_in : Game → Stage → ℕ
turn_in game (Commit t last) = t - game.ahead
turn_in game (Reveal t at) = t
turn_in game After = game.turns - 1

abbrev what_in : Stage → What
what_in (Commit t last) = F.Reveal
what_in (Reveal t at) = F.Commit
what_in After = F.Reveal

hinders_is : (game : Game) (me q : ℕ) (h : List Entry) (stage : Stage) (v : View) (from : Cell) → waits game stage ≡ true → StandsThere game me h stage →
    IsView game me h q v → from ≡ last_cell game me h q → hinders game me stage q v from ≡ not (lets game me h stage q)
hinders_is game me q h (Commit t last) v from waits there shown seen =
    meets_is game me q (t - game.ahead) v.resolved h last from (there (leb-true _ _ waits)) shown.resolved_is seen ∙ hinders_commit game me q (t - game.ahead) h
hinders_is game me q h (Reveal t at) v from waits there shown seen =
    ap (λ (b : Bool). not (holds v t) && b) (meets_is game me q t v.resolved h at from there shown.resolved_is seen) ∙ hinders_reveal game me q t h v shown
hinders_is game me q h After v from waits there shown seen =
    ap (λ (n : ℕ). nat_lt n game.turns) shown.resolved_is ∙ not_not (nat_lt (resolved_count game me h q) game.turns)

need_is : (game : Game) (me q : ℕ) (h : List Entry) (stage : Stage) (v : View) → IsView game me h q v → need_of game stage q v ≡ N.need_of game me h (turn_in game stage) (what_in stage) q
need_is game me q h (Commit t last) v shown = ap (λ (n : ℕ). let d : Need = record { player = q; turn = t - game.ahead; next = n; what = F.Reveal } in d) shown.next_is
need_is game me q h (Reveal t at) v shown = ap (λ (n : ℕ). let d : Need = record { player = q; turn = t; next = n; what = F.Commit } in d) shown.next_is
need_is game me q h After v shown = ap (λ (n : ℕ). let d : Need = record { player = q; turn = game.turns - 1; next = n; what = F.Reveal } in d) shown.next_is

-- the needs of the log, by the stage
abbrev needs_at_stage : Game → ℕ → List Entry → Stage → Bool → List Need
needs_at_stage game me h stage b = if b then N.needs_unless game me h (lets game me h stage) (turn_in game stage) (what_in stage) else []

by_slot : (game : Game) (me : ℕ) (h : List Entry) (stage : Stage) → N.needs_at game me h (slot_of stage) ≡ needs_at_stage game me h stage (waits game stage)
by_slot game me h (Reveal t at) = refl
by_slot game me h After = refl
by_slot game me h (Commit t last) = go (nat_lt t game.ahead) refl (nat_le game.ahead t) refl
  where
    go : (b : Bool) → nat_lt t game.ahead ≡ b → (d : Bool) → nat_le game.ahead t ≡ d →
        (if b then [] else N.needs_unless game me h (lets_commit game me h (t - game.ahead)) (t - game.ahead) F.Reveal) ≡ needs_at_stage game me h (Commit t last) d
    go true lt true le = let a = ltb-true _ _ lt in let b = leb-true _ _ le in absurd (omega arith)
    go true lt false le = refl
    go false lt true le = refl
    go false lt false le = let a = ltb-false _ _ lt in absurd (false≢true (sym le ∙ le-leb _ _ a))

-- the needs that are listed are those of the log
pub needs_are : (game : Game) (me : ℕ) (h : List Entry) (stage : Stage) (views : List View) (cells : List Cell) → AreViews game me h views → AreLastCells game me h cells →
    IsStageOf game me h stage → needs_of game me stage views cells ≡ N.needs game me h
unfolding needs_of N.needs others
needs_are game me h stage views cells shown seen is =
    go (waits game stage) refl ∙ sym (by_slot game me h stage) ∙ ap (N.needs_at game me h) (sym is.slot)
  where
    go : (b : Bool) → waits game stage ≡ b → (if b then flat_map (need_in game me stage views cells) (range_with_len 0 (players_of game)) else []) ≡ needs_at_stage game me h stage b
    go false w = refl
    go true w =
        steps_are me (λ q. hinders game me stage q (item_or views q no_view) (cell_of cells q)) (λ q. need_of game stage q (item_or views q no_view))
        (lets game me h stage) (N.need_of game me h (turn_in game stage) (what_in stage)) (players_of game) 0
        (λ q lt other. hinders_is game me q h stage (item_or views q no_view) (cell_of cells q) w is.cell (shown q (omega arith) other) (seen q (omega arith) other))
        (λ q lt other. need_is game me q h stage (item_or views q no_view) (shown q (omega arith) other))

-- the first commitments wait for no one
pub needs_none : (game : Game) (me : ℕ) (stage : Stage) (views : List View) (cells : List Cell) → waits game stage ≡ false → needs_of game me stage views cells ≡ []
unfolding needs_of
needs_none game me stage views cells none = ap (λ (b : Bool). if b then flat_map (need_in game me stage views cells) (range_with_len 0 (players_of game)) else []) none

-- the others are asked for in order
pub needs_all : (game : Game) (me n : ℕ) (stage : Stage) (views : List View) (cells : List Cell) → waits game stage ≡ true → n ≡ players_of game →
    flat_map (need_in game me stage views cells) (range_with_len 0 n) ≡ needs_of game me stage views cells
unfolding needs_of
needs_all game me n stage views cells some all =
    ap (λ (k : ℕ). flat_map (need_in game me stage views cells) (range_with_len 0 k)) all
    ∙ sym (ap (λ (b : Bool). if b then flat_map (need_in game me stage views cells) (range_with_len 0 (players_of game)) else []) some)

-- one player more was asked for
pub need_more : (game : Game) (me q i : ℕ) (stage : Stage) (views : List View) (cells seen : List Cell) (so_far new : List Need) → i ≡ q → seen ≡ cells →
    so_far ≡ flat_map (need_in game me stage views cells) (range_with_len 0 q) → new ≡ so_far ++ need_if game me stage q (get_or views i no_view) (cell_of seen q) →
    new ≡ flat_map (need_in game me stage views cells) (range_with_len 0 (q + 1))
need_more game me q i stage views cells seen so_far new at same before is =
    is ∙ ap (λ (n : ℕ). so_far ++ need_if game me stage q (get_or views n no_view) (cell_of seen q)) at
    ∙ ap (λ (v : View). so_far ++ need_if game me stage q v (cell_of seen q)) (item_is views q no_view)
    ∙ ap (λ (cs : List Cell). so_far ++ need_if game me stage q (item_or views q no_view) (cell_of cs q)) same
    ∙ ap (λ (ns : List Need). ns ++ need_in game me stage views cells q) before
    ∙ sym (flat_more (need_in game me stage views cells) q)

-- at most one need of each player
pub few_more : (game : Game) (me q : ℕ) (stage : Stage) (v : View) (from : Cell) (so_far new : List Need) → new ≡ so_far ++ need_if game me stage q v from → length so_far ≤ q → length new ≤ q + 1
few_more game me q stage v from so_far new is few =
    omega (arith, ap length is, length-append so_far (need_if game me stage q v from), step_few (q == me) (hinders game me stage q v from) (need_of game stage q v))

pub stays_on : (game : Game) (a b c : Meeting) → Stays game a b → Stays game b c → Stays game a c
stays_on game a b c one two = record { cells = two.cells ∙ one.cells; own = two.own ∙ one.own; meeting = two.meeting }
