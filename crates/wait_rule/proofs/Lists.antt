-- Lists of needs, player by player.
use Rattle.std.proofs.Common.{◌≡◌, ℕ, zero, suc, ◌+◌, ◌<◌, ◌≤◌, Bool, true, false, List, [], ◌∷◌, ◌++◌, length, refl, sym, ap, ◌∙◌, arith}
use Rattle.std.specs.Prelude.{map, filter, flat_map, not, ◌==◌, if◌then◌else◌}
use Rattle.std.specs.List.{range_with_len}
use Rattle.std.proofs.lemmas.Bool.{eq-eqb, false≢true}
use Rattle.definitions.specs.declared.answers.Need.{Need}

-- a need is added, or none
abbrev pub step_of : Bool → Bool → Need → List Need
step_of me waits need = if me then [] else if waits then need ∷ [] else []

pub step_few : (me waits : Bool) (need : Need) → length (step_of me waits need) ≤ 1
step_few true waits need = omega arith
step_few false true need = omega arith
step_few false false need = omega arith

-- needs that are added player by player are those of the other players that don't pass the test
pub steps_are : (me : ℕ) (waits : ℕ → Bool) (need : ℕ → Need) (passes : ℕ → Bool) (other : ℕ → Need) (n a : ℕ) →
    ((q : ℕ) → q < a + n → (q ≡ me → ⊥) → waits q ≡ not (passes q)) → ((q : ℕ) → q < a + n → (q ≡ me → ⊥) → need q ≡ other q) →
    flat_map (λ q. step_of (q == me) (waits q) (need q)) (range_with_len a n) ≡ map other (filter (λ q. not (passes q)) (filter (λ q. not (q == me)) (range_with_len a n)))
steps_are me waits need passes other zero a same alike = refl
steps_are me waits need passes other (suc n) a same alike =
    let ih = steps_are me waits need passes other n (a + 1) (λ q lt. same q (omega arith)) (λ q lt. alike q (omega arith)) in
    ap (λ (xs : List Need). step_of (a == me) (waits a) (need a) ++ xs) ih ∙ go (a == me) refl
  where
    rest : List ℕ
    rest = filter (λ q. not (q == me)) (range_with_len (a + 1) n)

    one : (w p : Bool) → w ≡ not p → need a ≡ other a →
        (if w then need a ∷ [] else []) ++ map other (filter (λ q. not (passes q)) rest) ≡ map other (if not p then a ∷ filter (λ q. not (passes q)) rest else filter (λ q. not (passes q)) rest)
    one true true w e = absurd (false≢true (sym w))
    one true false w e = ap (λ x. x ∷ map other (filter (λ q. not (passes q)) rest)) e
    one false true w e = refl
    one false false w e = absurd (false≢true w)

    go : (b : Bool) → (a == me) ≡ b →
        step_of b (waits a) (need a) ++ map other (filter (λ q. not (passes q)) rest) ≡ map other (filter (λ q. not (passes q)) (if not b then a ∷ rest else rest))
    go true is = refl
    go false is =
        let different : a ≡ me → ⊥ = λ e. false≢true (sym is ∙ eq-eqb a me e) in
        let below : a < a + suc n = omega arith in
        one (waits a) (passes a) (same a below different) (alike a below different)
