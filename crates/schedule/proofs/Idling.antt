-- Idling: where no honest player may go on and none lacks what another one made, all are done.
use Rattle.std.proofs.Common.{◌≡◌, ℕ, zero, suc, ◌+◌, ◌-◌, ◌*◌, ◌<◌, ◌≤◌, ◌⊎◌, Bool, true, false, List, [], ◌∷◌, length, refl, sym, ap, ◌∙◌, subst, arith, inl, inr, Option, Some, None}
use Rattle.std.specs.Prelude.{filter, find, map, min, not, option_map, ◌&&◌, ◌||◌, ◌==◌, if◌then◌else◌}
use Rattle.std.specs.List.{list_any, range_with_len}
use Rattle.std.proofs.lemmas.Bool.{cases_eq, eq-eqb, false≢true, le-ltb, ltb-false, ne_eqb, not-false}
use Rattle.plain_lemmas.proofs.Lists.{some_within}
use Rattle.plain_lemmas.proofs.Options.{some_of}
use Rattle.definitions.specs.declared.answers.Need.{Need}
use Rattle.definitions.specs.declared.frames.What.TheVariants.{Reveal}
use Rattle.definitions.specs.declared.logs.Entry.{Entry}
use Rattle.definitions.specs.Lists.{EachIs, first_of}
use Rattle.definitions.specs.World.{Game, players_of}
use Rattle.definitions.specs.Places.{slot_at}
use Rattle.definitions.specs.Held.{known, next_place, resolved_count}
use Rattle.definitions.specs.Findings.{is_clean}
use Rattle.definitions.specs.Honest.{IsHonest, made_count, others}
use Rattle.definitions.specs.Needs.{is_done, may_choose, need_of, needs, needs_at}
use Rattle.definitions.specs.Advance.{next_made}
use Rattle.definitions.specs.Steps.{Logs, has_log, log_of}
use Rattle.definition_laws.specs.Members.{Has}
use Rattle.definition_laws.specs.Groups.{IsStill}
use Rattle.definition_laws.specs.Advancing.{ExactlyOne, IsDone}
use Rattle.definition_laws.specs.Stepping.{AreHonest}
use Rattle.definition_laws.proofs.ForPeers.{own_next}
use Rattle.definition_laws.proofs.Groups.{needed_is_behind, done_where_still}
use Rattle.definition_laws.proofs.Members.{Has_each, Has_filter, Has_range, each_Has, range_Has}
use Rattle.definition_laws.proofs.Nexts.{known_orderly}
use Rattle.definitions.proofs.Items.{item_is}
use Rattle.definitions.proofs.Streams.{find-range-none, slot_at-past}
use Rattle.definition_laws.proofs.Standing.{made_count_most, stands_one_way}
use Rattle.definition_laws.proofs.FirstFinding.{first_none_in}
use Rattle.schedule.specs.declared.stands.Gap.{Gap}
use Rattle.schedule.specs.declared.stands.Stand.TheVariants.{Finished}
use Rattle.schedule.specs.Stands.{AreAllDone, gap_in, gap_of, has_choice, has_finding, has_made, is_ahead_of, is_caught, is_holding, is_moving, is_waited_for, players, stand, stand_by, waits_for}
use Rattle.schedule.specs.Tables.{AreFair}
use Rattle.schedule.proofs.Firsts.{any_fails, fails_any, fails_find, first_fails}

-- no honest player lacks the next frame of another one that this one made
abbrev pub NoneBehind : Game → Logs → Type 0
NoneBehind game logs = (p q : ℕ) (h g : List Entry) → log_of logs p ≡ Some h → log_of logs q ≡ Some g → made_count g ≤ next_place game p h q

-- each honest player stands still
abbrev pub AreStill : Game → Logs → Type 0
AreStill game logs = (p : ℕ) (h : List Entry) → log_of logs p ≡ Some h → IsStill game logs p h

-- no player with fewer made frames than this waits: whom it waits for made fewer, so waits for no one, and has made them all
none_waits : (game : Game) (logs : Logs) (most p : ℕ) (h : List Entry) → 1 ≤ game.ahead → AreHonest game logs → NoneBehind game logs → AreStill game logs → log_of logs p ≡ Some h → made_count h < most → needs game p h ≡ []
none_waits game logs zero p h d honest behind still at few = absurd (omega arith)
none_waits game logs (suc most) p h d honest behind still at few =
    go (needs game p h) refl (λ q own there less. none_waits game logs most q own d honest behind still there less)
  where
    never : (n : Need) → Has (needs game p h) n → ((q : ℕ) (own : List Entry) → log_of logs q ≡ Some own → made_count own < most → needs game q own ≡ []) → ⊥
    never n m ih =
        let less = needed_is_behind game p h n d (honest p h at) m in
        let w = still p h at in
        let own = some_of (log_of logs n.player) (Has_each (λ n. has_log logs n.player ≡ true) (needs game p h) n w.waits m) in
        let counts = behind p n.player h own.0 at own.1 in
        let next = less.1 in
        let all = made_count_most game p h d (honest p h at) in
        let done = done_where_still game logs n.player own.0 d (honest n.player own.0 own.1) (still n.player own.0 own.1) (ih n.player own.0 own.1 (omega arith)) in
        let whole = done.0 in
        omega arith

    go : (ns : List Need) → needs game p h ≡ ns → ((q : ℕ) (own : List Entry) → log_of logs q ≡ Some own → made_count own < most → needs game q own ≡ []) → needs game p h ≡ []
    go [] e ih = e
    go (n ∷ ns) e ih = absurd (never n (subst (λ (xs : List Need). Has xs n) (sym e) (inl refl)) ih)

pub done_where_none_is_behind : (game : Game) (logs : Logs) → 1 ≤ game.ahead → AreHonest game logs → NoneBehind game logs → AreStill game logs → AreAllDone game logs
done_where_none_is_behind game logs d honest behind still p h at =
    let s = still p h at in
    (s.clean, done_where_still game logs p h d (honest p h at) s (none_waits game logs (made_count h + 1) p h d honest behind still at (omega arith)))

-- ---- what a finished stand says

-- an honest player is one of the session's
pub honest_within : (logs : Logs) (p : ℕ) (h : List Entry) → log_of logs p ≡ Some h → p < length logs
honest_within logs p h e = some_within logs p h (item_is logs p None ∙ e)

-- nothing of the four kinds is there
record NoneThere (game : Game) (logs : Logs) : Type 0 where
  caught : find (is_caught game logs) (players game) ≡ None
  moving : find (is_moving game logs) (players game) ≡ None
  gap : first_of (gap_of game logs) (players game) ≡ None
  holding : find (is_holding game logs) (players game) ≡ None

finished_none : (game : Game) (logs : Logs) → stand game logs ≡ Finished → NoneThere game logs
finished_none game logs e =
    let w = go (find (is_caught game logs) (players game)) (find (is_moving game logs) (players game)) (first_of (gap_of game logs) (players game)) (find (is_holding game logs) (players game)) e in
    record { caught = w.0; moving = w.1; gap = w.2; holding = w.3 }
  where
    go : (a b : Option ℕ) (g : Option Gap) (c : Option ℕ) → stand_by a b g c ≡ Finished → (a ≡ None) × (b ≡ None) × (g ≡ None) × (c ≡ None)
    go None None None None e = (refl, refl, refl, refl)
    go None None None (Some q) e = cc
    go None None (Some x) c e = cc
    go None (Some p) g c e = cc
    go (Some p) b g c e = cc

none_finished : (game : Game) (logs : Logs) → NoneThere game logs → stand game logs ≡ Finished
none_finished game logs w = go (find (is_caught game logs) (players game)) (find (is_moving game logs) (players game)) (first_of (gap_of game logs) (players game)) (find (is_holding game logs) (players game)) w.caught w.moving w.gap w.holding
  where
    go : (a b : Option ℕ) (g : Option Gap) (c : Option ℕ) → a ≡ None → b ≡ None → g ≡ None → c ≡ None → stand_by a b g c ≡ Finished
    go None None None None x y z w = refl
    go None None None (Some q) x y z w = cc
    go None None (Some k) c x y z w = cc
    go None (Some p) g c x y z w = cc
    go (Some p) b g c x y z w = cc

-- an honest player is clean and may not choose
none_caught : (game : Game) (logs : Logs) (p : ℕ) (h : List Entry) → AreFair game logs → NoneThere game logs → log_of logs p ≡ Some h → is_clean game h ≡ true
none_caught game logs p h a w at =
    let lt : p < players_of game = omega (arith, honest_within logs p h at, a.one_each) in
    not-false _ (sym (ap (has_finding game) at) ∙ find-range-none (is_caught game logs) 0 (players_of game) p w.caught (omega arith) (omega arith))

none_moving : (game : Game) (logs : Logs) (p : ℕ) (h : List Entry) → AreFair game logs → NoneThere game logs → log_of logs p ≡ Some h → may_choose game p h ≡ false
none_moving game logs p h a w at =
    let lt : p < players_of game = omega (arith, honest_within logs p h at, a.one_each) in
    sym (ap (has_choice game p) at) ∙ find-range-none (is_moving game logs) 0 (players_of game) p w.moving (omega arith) (omega arith)

-- no frame is lacked
none_lacked : (game : Game) (logs : Logs) → AreFair game logs → NoneThere game logs → NoneBehind game logs
none_lacked game logs a w p q h g at there =
    let lt : p < players_of game = omega (arith, honest_within logs p h at, a.one_each) in
    let lq : q < players_of game = omega (arith, honest_within logs q g there, a.one_each) in
    let no_gap : gap_in game logs p (Some h) ≡ None = sym (ap (gap_in game logs p) at) ∙ first_fails (gap_of game logs) 0 (players_of game) p w.gap (omega arith) (omega arith) in
    let ahead : is_ahead_of game logs p h q ≡ false = find-range-none (is_ahead_of game logs p h) 0 (players_of game) q (unmapped _ no_gap) (omega arith) (omega arith) in
    ltb-false _ _ (sym (ap (λ (o : Option (List Entry)). has_made o (next_place game p h q)) there) ∙ ahead)
  where
    unmapped : (o : Option ℕ) → option_map {T = ℕ} (λ q. let x : Gap = record { who = p; whose = q; place = next_place game p h q } in x) o ≡ None → o ≡ None
    unmapped None e = refl
    unmapped (Some k) e = cc

filter_Has : (test : ℕ → Bool) (xs : List ℕ) (x : ℕ) → Has (filter test xs) x → Has xs x
filter_Has test [] x m = absurd m
filter_Has test (y ∷ ys) x m = go (test y) m (filter_Has test ys x)
  where
    go : (b : Bool) → Has (if b then y ∷ filter test ys else filter test ys) x → (Has (filter test ys) x → Has ys x) → (y ≡ x) ⊎ Has ys x
    go true (inl e) ih = inl e
    go true (inr k) ih = inr (ih k)
    go false k ih = inr (ih k)

-- whoever is needed is one of the session's players
needed_within : (game : Game) (p : ℕ) (h : List Entry) (n : Need) → 1 ≤ game.ahead → IsHonest game p h → Has (needs game p h) n → n.player < players_of game
unfolding others
needed_within game p h n d i m =
    let other = needed_is_behind game p h n d i m in
    let within = range_Has 0 (players_of game) n.player (filter_Has _ _ n.player other.0) in omega arith

any_of : (xs : List Need) (n : Need) → Has xs n → list_any (λ m. m.player == n.player) xs ≡ true
any_of [] n m = absurd m
any_of (x ∷ xs) n (inl e) = ap (λ (b : Bool). b || list_any (λ m. m.player == n.player) xs) (eq-eqb x.player n.player (ap (λ (k : Need). k.player) e))
any_of (x ∷ xs) n (inr k) = ap (λ (b : Bool). (x.player == n.player) || b) (any_of xs n k) ∙ or_true (x.player == n.player)
  where
    or_true : (b : Bool) → (b || true) ≡ true
    or_true true = refl
    or_true false = refl

-- no hostile player is waited for
none_holding : (game : Game) (logs : Logs) (p : ℕ) (h : List Entry) → 1 ≤ game.ahead → AreFair game logs → NoneThere game logs → log_of logs p ≡ Some h → EachIs (λ n. has_log logs n.player ≡ true) (needs game p h)
none_holding game logs p h d a w at = each_Has (λ n. has_log logs n.player ≡ true) (needs game p h) (λ n m. by_log n m (has_log logs n.player) refl)
  where
    by_log : (n : Need) → Has (needs game p h) n → (b : Bool) → has_log logs n.player ≡ b → b ≡ true
    by_log n m true e = refl
    by_log n m false e =
        let within = needed_within game p h n d (a.honest p h at) m in
        let mine : p < players_of game = omega (arith, honest_within logs p h at, a.one_each) in
        let holds : is_holding game logs n.player ≡ false = find-range-none (is_holding game logs) 0 (players_of game) n.player w.holding (omega arith) (omega arith) in
        let unwaited : is_waited_for game logs n.player ≡ false = sym (ap (λ (b : Bool). not b && is_waited_for game logs n.player) e) ∙ holds in
        let idle : waits_for game p (log_of logs p) n.player ≡ false = any_fails (λ k. waits_for game k (log_of logs k) n.player) 0 (players_of game) p unwaited (omega arith) (omega arith) in
        absurd (false≢true (sym idle ∙ ap (λ (o : Option (List Entry)). waits_for game p o n.player) at ∙ any_of (needs game p h) n m))

pub finished_done : (game : Game) (logs : Logs) → 1 ≤ game.ahead → AreFair game logs → stand game logs ≡ Finished → AreAllDone game logs
finished_done game logs d a e =
    let w = finished_none game logs e in
    done_where_none_is_behind game logs d a.honest (none_lacked game logs a w) (λ p h at. record {
      clean = none_caught game logs p h a w at;
      chooses = λ c. false≢true (sym (none_moving game logs p h a w at) ∙ c);
      makes = a.made p h at;
      waits = none_holding game logs p h d a w at;
    })

-- ---- what players who are done say of the stand

done_choice : (game : Game) (p : ℕ) (h : List Entry) → 1 ≤ game.ahead → IsHonest game p h → is_clean game h ≡ true → next_made game p h ≡ None → IsDone game p h → may_choose game p h ≡ false
done_choice game p h d i clean made done = go (may_choose game p h) refl
  where
    never : ExactlyOne (may_choose game p h ≡ true) (needs game p h ≡ [] → ⊥) (IsDone game p h) → may_choose game p h ≡ true → ⊥
    never (inl w) c = w.2 done
    never (inr (inl w)) c = w.2 done
    never (inr (inr w)) c = w.0 c

    go : (b : Bool) → may_choose game p h ≡ b → b ≡ false
    go true e = absurd (never (stands_one_way game p h d i clean made) e)
    go false e = refl

-- behind the last own frame and without needs, all turns of each other player are resolved
done_resolved : (game : Game) (p q : ℕ) (h : List Entry) → 1 ≤ game.ahead → IsDone game p h → q < players_of game → (q ≡ p → ⊥) → game.turns ≤ resolved_count game p h q
unfolding needs others
done_resolved game p q h d done lt other =
    let past : slot_at game (made_count h) ≡ None = slot_at-past game (made_count h) d (omega (arith, done.0)) in
    let none : needs_at game p h None ≡ [] = ap (needs_at game p h) (sym past) ∙ done.1 in
    let there : Has (others game p) q = Has_filter (λ k. not (k == p)) (range_with_len 0 (players_of game)) q (Has_range 0 (players_of game) q (omega arith) (omega arith)) (ap not (ne_eqb q p other)) in
    go (is_done game p h q) refl none there
  where
    map_empty : (f : ℕ → Need) (xs : List ℕ) → map f xs ≡ [] → xs ≡ []
    map_empty f [] e = refl
    map_empty f (x ∷ xs) e = cc

    go : (b : Bool) → is_done game p h q ≡ b → needs_at game p h None ≡ [] → Has (others game p) q → game.turns ≤ resolved_count game p h q
    go true e none there = ltb-false _ _ (by_not _ e)
      where
        by_not : (b : Bool) → not b ≡ true → b ≡ false
        by_not true e = absurd (false≢true e)
        by_not false e = refl
    go false e none there =
        let left : filter (λ k. not (is_done game p h k)) (others game p) ≡ [] = map_empty (need_of game p h (game.turns - 1) Reveal) _ none in
        let kept : Has (filter (λ k. not (is_done game p h k)) (others game p)) q = Has_filter (λ k. not (is_done game p h k)) (others game p) q there (ap not e) in
        absurd (subst (λ (xs : List ℕ). Has xs q) left kept)

done_next : (game : Game) (p q : ℕ) (h : List Entry) → 1 ≤ game.ahead → IsHonest game p h → IsDone game p h → q < players_of game → 2 * game.turns ≤ next_place game p h q
done_next game p q h d i done lt = elim (cases_eq q p) [
  | inl same ↦ subst (λ k. 2 * game.turns ≤ next_place game p h k) (sym same) (omega (arith, own_next game p h d i, done.0))
  | inr other ↦ all_there (done_resolved game p q h d done lt other)
]
  where
    by_least : (c r : ℕ) → (r ≡ 0) ⊎ (min (r + game.ahead) (game.turns + 1) ≤ c + 1) → game.turns ≤ r → 2 * game.turns ≤ c + r
    by_least c r (inl e) le = omega arith
    by_least c r (inr e) le = omega arith

    all_there : game.turns ≤ resolved_count game p h q → 2 * game.turns ≤ next_place game p h q
    all_there le = let o = known_orderly game p q h in by_least (length (known game p h q).digests) (length (known game p h q).moves) o.least le

pub done_finished : (game : Game) (logs : Logs) → 1 ≤ game.ahead → AreFair game logs → AreAllDone game logs → stand game logs ≡ Finished
done_finished game logs d a all = none_finished game logs (record {
  caught = fails_find (is_caught game logs) 0 (players_of game) (λ p le lt. caught p (log_of logs p) refl);
  moving = fails_find (is_moving game logs) 0 (players_of game) (λ p le lt. moving p (log_of logs p) refl);
  gap = first_none_in (gap_of game logs) 0 (players_of game) (λ p le lt. gap p (log_of logs p) refl);
  holding = fails_find (is_holding game logs) 0 (players_of game) (λ q le lt. unheld (not (has_log logs q)) (is_waited_for game logs q)
      (fails_any (λ p. waits_for game p (log_of logs p) q) 0 (players_of game) (λ p le lt. waits p q (log_of logs p) refl)));
})
  where
    caught : (p : ℕ) (o : Option (List Entry)) → log_of logs p ≡ o → has_finding game o ≡ false
    caught p None e = refl
    caught p (Some h) e = let w = all p h e in ap not w.0

    moving : (p : ℕ) (o : Option (List Entry)) → log_of logs p ≡ o → has_choice game p o ≡ false
    moving p None e = refl
    moving p (Some h) e = let w = all p h e in done_choice game p h d (a.honest p h e) w.0 (a.made p h e) w.1

    ahead : (p : ℕ) (h : List Entry) → log_of logs p ≡ Some h → (q : ℕ) → q < players_of game → (o : Option (List Entry)) → log_of logs q ≡ o → has_made o (next_place game p h q) ≡ false
    ahead p h e q lt None there = refl
    ahead p h e q lt (Some g) there =
        let w = all p h e in
        let next = done_next game p q h d (a.honest p h e) w.1 lt in
        let most = made_count_most game q g d (a.honest q g there) in
        le-ltb (next_place game p h q) (made_count g) (omega arith)

    gap : (p : ℕ) (o : Option (List Entry)) → log_of logs p ≡ o → gap_in game logs p o ≡ None
    gap p None e = refl
    gap p (Some h) e =
        let of_first : Option ℕ → Option Gap = λ o. option_map (λ q. record { who = p; whose = q; place = next_place game p h q }) o in
        ap of_first (fails_find (is_ahead_of game logs p h) 0 (players_of game) (λ q le lt. ahead p h e q (omega arith) (log_of logs q) refl))

    waits : (p q : ℕ) (o : Option (List Entry)) → log_of logs p ≡ o → waits_for game p o q ≡ false
    waits p q None e = refl
    waits p q (Some h) e = let w = all p h e in let done = w.1 in ap (list_any (λ (n : Need). n.player == q)) done.1

    unheld : (x y : Bool) → y ≡ false → (x && y) ≡ false
    unheld true y e = e
    unheld false y e = refl
