-- Ended: what a stand says of the logs: whether one has a finding, and how far the place of a frame that is lacked can be.
use Rattle.std.proofs.Common.{◌≡◌, ◌*◌, ◌<◌, ◌≤◌, ℕ, true, false, List, [], ◌∷◌, Option, None, Some, length, refl, sym, ◌∙◌, ap, subst, arith}
use Rattle.std.specs.Prelude.{find, nat_lt, option_map}
use Rattle.std.specs.Option.{option_or}
use Rattle.std.proofs.lemmas.Bool.{ltb-true, not-true, not-false}
use Rattle.definitions.specs.declared.logs.Entry.{Entry}
use Rattle.definitions.specs.Findings.{is_clean}
use Rattle.definitions.specs.Held.{next_place}
use Rattle.definitions.specs.Honest.{made_count}
use Rattle.definitions.specs.Lists.{first_of}
use Rattle.definitions.specs.Steps.{Logs, log_of}
use Rattle.definitions.specs.World.{Game, players_of}
use Rattle.definitions.proofs.Streams.{find-range, find-range-none}
use Rattle.definition_laws.specs.Stepping.{AreHonest}
use Rattle.definition_laws.proofs.Standing.{made_count_most}
use Rattle.schedule.specs.declared.stands.Gap.{Gap}
use Rattle.schedule.specs.declared.stands.Stand.TheVariants.{Behind, Caught}
use Rattle.schedule.specs.Stands.{gap_in, gap_of, has_finding, has_made, is_ahead_of, is_caught, is_holding, is_moving, players, stand, stand_by}
use Rattle.schedule.specs.Tables.{AreFair}
use Rattle.schedule.proofs.Idling.{honest_within}

first_some : {X Y : Type 0} (f : X → Option Y) (xs : List X) (y : Y) → first_of f xs ≡ Some y → (x : X) × (f x ≡ Some y)
first_some f [] y e = absurd (let never : None ≡ Some y = e in cc)
first_some {X} {Y} f (x ∷ xs) y e = go (f x) refl (first_some f xs y) e
  where
    go : (o : Option Y) → f x ≡ o → (first_of f xs ≡ Some y → (x : X) × (f x ≡ Some y)) → option_or o (first_of f xs) ≡ Some y → (x : X) × (f x ≡ Some y)
    go None t more e = more e
    go (Some z) t more e = (x, t ∙ e)

stand_gap : (a b : Option ℕ) (g : Option Gap) (c : Option ℕ) (p q place : ℕ) → stand_by a b g c ≡ Behind p q place → (x : Gap) × (g ≡ Some x) × (x.place ≡ place)
stand_gap None None (Some x) c p q place e = let same : Behind x.who x.whose x.place ≡ Behind p q place = e in (x, refl, cc)
stand_gap None None None None p q place e = cc
stand_gap None None None (Some h) p q place e = cc
stand_gap None (Some m) g c p q place e = cc
stand_gap (Some m) b g c p q place e = cc

module _ (game : Game) (logs : Logs) (ahead : 1 ≤ game.ahead) (honest : AreHonest game logs) where
  made_low : (q place : ℕ) (o : Option (List Entry)) → log_of logs q ≡ o → has_made o place ≡ true → place < 2 * game.turns
  made_low q place None at e = absurd (let never : false ≡ true = e in cc)
  made_low q place (Some own) at e =
      let below : place < made_count own = ltb-true place (made_count own) e in
      let most = made_count_most game q own ahead (honest q own at) in
      omega (arith, below, most)

  found_low : (r : ℕ) (h : List Entry) (o : Option ℕ) (x : Gap) → find (is_ahead_of game logs r h) (players game) ≡ o → option_map (λ q. record { who = r; whose = q; place = next_place game r h q }) o ≡ Some x → x.place < 2 * game.turns
  found_low r h None x f e = absurd (let never : None ≡ Some x = e in cc)
  found_low r h (Some q) x f e =
      let gap : Gap = record { who = r; whose = q; place = next_place game r h q } in
      let same : gap ≡ x = (let some : Some gap ≡ Some x = e in cc) in
      subst (λ (y : Gap). y.place < 2 * game.turns) same (made_low q (next_place game r h q) (log_of logs q) refl (find-range (is_ahead_of game logs r h) 0 (players_of game) q f).2)

  gap_low : (r : ℕ) (o : Option (List Entry)) (x : Gap) → gap_in game logs r o ≡ Some x → x.place < 2 * game.turns
  gap_low r None x e = absurd (let never : None ≡ Some x = e in cc)
  gap_low r (Some h) x e = found_low r h (find (is_ahead_of game logs r h) (players game)) x refl e

  pub behind_low : (p q place : ℕ) → stand game logs ≡ Behind p q place → place < 2 * game.turns
  behind_low p q place e =
      let s = stand_gap (find (is_caught game logs) (players game)) (find (is_moving game logs) (players game)) (first_of (gap_of game logs) (players game)) (find (is_holding game logs) (players game)) p q place e in
      let r = first_some (gap_of game logs) (players game) s.0 s.1 in
      subst (λ (n : ℕ). n < 2 * game.turns) s.2 (gap_low r.0 (log_of logs r.0) s.0 r.1)

-- ---- whether a log has a finding

caught_there : (a m : Option ℕ) (g : Option Gap) (c : Option ℕ) (p : ℕ) → stand_by a m g c ≡ Caught p → a ≡ Some p
caught_there (Some q) m g c p e = cc
caught_there None (Some q) g c p e = cc
caught_there None None (Some x) c p e = cc
caught_there None None None (Some q) p e = cc
caught_there None None None None p e = cc

module _ (game : Game) (logs : Logs) where
  -- the log of a player that is caught has one
  pub stand_caught : (p : ℕ) → stand game logs ≡ Caught p → (h : List Entry) × (log_of logs p ≡ Some h) × (is_clean game h ≡ false)
  stand_caught p e =
      go (log_of logs p) refl
      (find-range (is_caught game logs) 0 (players_of game) p
      (caught_there (find (is_caught game logs) (players game)) (find (is_moving game logs) (players game)) (first_of (gap_of game logs) (players game)) (find (is_holding game logs) (players game)) p e)).2
    where
      go : (o : Option (List Entry)) → log_of logs p ≡ o → has_finding game o ≡ true → (h : List Entry) × (log_of logs p ≡ Some h) × (is_clean game h ≡ false)
      go None at f = absurd (let never : false ≡ true = f in cc)
      go (Some h) at f = (h, at, not-true (is_clean game h) f)

  -- where nobody is caught, no log has
  pub stand_clean : AreFair game logs → ((p : ℕ) → stand game logs ≡ Caught p → ⊥) → (p : ℕ) (h : List Entry) → log_of logs p ≡ Some h → is_clean game h ≡ true
  stand_clean fair none p h at = go (find (is_caught game logs) (players game)) refl
    where
      caught : (q : ℕ) → find (is_caught game logs) (players game) ≡ Some q → stand game logs ≡ Caught q
      caught q e =
          ap (λ (a : Option ℕ). stand_by a (find (is_moving game logs) (players game)) (first_of (gap_of game logs) (players game)) (find (is_holding game logs) (players game))) e

      go : (o : Option ℕ) → find (is_caught game logs) (players game) ≡ o → is_clean game h ≡ true
      go (Some q) e = absurd (none q (caught q e))
      go None e =
          let lt : p < players_of game = omega (arith, honest_within logs p h at, fair.one_each) in
          not-false (is_clean game h) (sym (ap (has_finding game) at) ∙ find-range-none (is_caught game logs) 0 (players_of game) p e (omega arith) (omega arith))
