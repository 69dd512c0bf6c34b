-- Places: each place of a stream is that of exactly one frame.
use Rattle.std.proofs.Common.{◌≡◌, ℕ, zero, suc, ◌+◌, ◌*◌, ◌/◌, ◌%◌, ◌<◌, ◌≤◌, ◌-◌, refl, Bool, true, false, ◌∙◌, ap, arith, ◌⊎◌, inl, inr, subst}
use Rattle.std.specs.Prelude.{Option, Some, None, ◌==◌, min, find, cond}
use Rattle.std.specs.List.{range_with_len}
use Rattle.std.proofs.lemmas.Bool.{lt-ltb, le-ltb, cases_lt, cond-true, cond-false, eqb-true, eq-eqb}
use Rattle.definitions.specs.declared.frames.What.TheVariants.{Commit, Reveal}
use Rattle.definitions.specs.World.{Game}
use Rattle.definitions.specs.Places.{commit_place, reveal_place, slot_or, slot_at}

pub commit_place-below : (game : Game) (t : ℕ) → t < game.turns → commit_place game t ≡ t + (t + 1 - game.ahead)
unfolding commit_place
commit_place-below game t h = cond-true _ _ _ (lt-ltb t game.turns h)

pub commit_place-past : (game : Game) (t : ℕ) → game.turns ≤ t → commit_place game t ≡ 2 * t
unfolding commit_place
commit_place-past game t h = cond-false _ _ _ (le-ltb t game.turns h)

pub reveal_place-below : (game : Game) (t : ℕ) → t < game.turns → reveal_place game t ≡ t + min (t + game.ahead) game.turns
unfolding reveal_place
reveal_place-below game t h = cond-true _ _ _ (lt-ltb t game.turns h)

pub reveal_place-past : (game : Game) (t : ℕ) → game.turns ≤ t → reveal_place game t ≡ 2 * t + 1
unfolding reveal_place
reveal_place-past game t h = cond-false _ _ _ (le-ltb t game.turns h)

-- committing one turn ahead, commitments and reveals take turns
pub commit_place-plain : (game : Game) (t : ℕ) → game.ahead ≡ 1 → commit_place game t ≡ 2 * t
commit_place-plain game t one = go (cases_lt t game.turns)
  where
    go : (t < game.turns) ⊎ (game.turns ≤ t) → commit_place game t ≡ 2 * t
    go (inl h) = let e = commit_place-below game t h in omega arith
    go (inr h) = commit_place-past game t h

pub reveal_place-plain : (game : Game) (t : ℕ) → game.ahead ≡ 1 → reveal_place game t ≡ 2 * t + 1
reveal_place-plain game t one = go (cases_lt t game.turns)
  where
    go : (t < game.turns) ⊎ (game.turns ≤ t) → reveal_place game t ≡ 2 * t + 1
    go (inl h) = let e = reveal_place-below game t h in omega arith
    go (inr h) = reveal_place-past game t h

-- the places of the turns are below twice their number
pub commit_place-fits : (game : Game) (t : ℕ) → 1 ≤ game.ahead → t < game.turns → commit_place game t < 2 * game.turns
commit_place-fits game t a h = let e = commit_place-below game t h in omega arith

pub reveal_place-fits : (game : Game) (t : ℕ) → t < game.turns → reveal_place game t < 2 * game.turns
reveal_place-fits game t h = let e = reveal_place-below game t h in omega arith

-- two commitments of one place are of one turn
pub commit_place-once : (game : Game) (t u : ℕ) → t < game.turns → u < game.turns → commit_place game t ≡ commit_place game u → t ≡ u
commit_place-once game t u h k e = let a = commit_place-below game t h in let b = commit_place-below game u k in omega arith

pub reveal_place-once : (game : Game) (t u : ℕ) → t < game.turns → u < game.turns → reveal_place game t ≡ reveal_place game u → t ≡ u
reveal_place-once game t u h k e = let a = reveal_place-below game t h in let b = reveal_place-below game u k in omega arith

-- no commitment has the place of a reveal
pub commit_place-apart : (game : Game) (t u : ℕ) → 1 ≤ game.ahead → t < game.turns → u < game.turns → commit_place game t ≡ reveal_place game u → ⊥
commit_place-apart game t u d h k e = let a = commit_place-below game t h in let b = reveal_place-below game u k in omega arith

-- the frame of a place
pub frame_of_place : (game : Game) (n : ℕ) → 1 ≤ game.ahead → n < 2 * game.turns →
    ((t : ℕ) × (t < game.turns) × (commit_place game t ≡ n)) ⊎ ((t : ℕ) × (t < game.turns) × (reveal_place game t ≡ n))
frame_of_place game n d h = go (cases_lt n game.ahead) (cases_lt n game.turns) (cases_lt (n - game.turns + game.ahead) game.turns) (cases_lt 0 ((n - game.ahead) % 2))
  where
    half : ℕ
    half = (n - game.ahead) / 2

    go : (n < game.ahead) ⊎ (game.ahead ≤ n) → (n < game.turns) ⊎ (game.turns ≤ n) → (n - game.turns + game.ahead < game.turns) ⊎ (game.turns ≤ n - game.turns + game.ahead) →
        (0 < (n - game.ahead) % 2) ⊎ ((n - game.ahead) % 2 ≤ 0) →
        ((t : ℕ) × (t < game.turns) × (commit_place game t ≡ n)) ⊎ ((t : ℕ) × (t < game.turns) × (reveal_place game t ≡ n))
    go (inl a) (inl b) c p = inl (n, b, commit_place-below game n b ∙ omega arith)
    go (inl a) (inr b) c p =
        let within : n - game.turns < game.turns = omega arith in
        inr (n - game.turns, within, reveal_place-below game (n - game.turns) within ∙ omega arith)
    go (inr a) b (inr c) p =
        let within : n - game.turns < game.turns = omega arith in
        inr (n - game.turns, within, reveal_place-below game (n - game.turns) within ∙ omega arith)
    go (inr a) b (inl c) (inl odd) =
        let within : half + game.ahead < game.turns = omega arith in
        inl (half + game.ahead, within, commit_place-below game (half + game.ahead) within ∙ omega arith)
    go (inr a) b (inl c) (inr even) =
        let within : half < game.turns = omega arith in
        inr (half, within, reveal_place-below game half within ∙ omega arith)

-- what `find` gives over a range
pub find-range : (p : ℕ → Bool) (a n t : ℕ) → find p (range_with_len a n) ≡ Some t → (a ≤ t) × (t < a + n) × (p t ≡ true)
find-range p a zero t h = cc
find-range p a (suc n) t h = go (p a) refl (find-range p (a + 1) n t) h
  where
    go : (b : Bool) → p a ≡ b → (find p (range_with_len (a + 1) n) ≡ Some t → (a + 1 ≤ t) × (t < a + 1 + n) × (p t ≡ true)) →
        cond b (Some a) (find p (range_with_len (a + 1) n)) ≡ Some t → (a ≤ t) × (t < a + suc n) × (p t ≡ true)
    go true e ih h = let same : a ≡ t = cc in (omega arith, omega arith, subst (λ (u : ℕ). p u ≡ true) same e)
    go false e ih h = let rest = ih h in (omega arith, omega arith, rest.2)

pub find-range-none : (p : ℕ → Bool) (a n t : ℕ) → find p (range_with_len a n) ≡ None → a ≤ t → t < a + n → p t ≡ false
find-range-none p a zero t h le lt = absurd (omega arith)
find-range-none p a (suc n) t h le lt = go (p a) refl (find-range-none p (a + 1) n t) h (cases_lt a t)
  where
    go : (b : Bool) → p a ≡ b → (find p (range_with_len (a + 1) n) ≡ None → a + 1 ≤ t → t < a + 1 + n → p t ≡ false) →
        cond b (Some a) (find p (range_with_len (a + 1) n)) ≡ None → (a < t) ⊎ (t ≤ a) → p t ≡ false
    go true e ih h c = cc
    go false e ih h (inl c) = ih h (omega arith) (omega arith)
    go false e ih h (inr c) = let same : a ≡ t = omega arith in subst (λ (u : ℕ). p u ≡ false) same e

-- where just one number of the range passes, `find` gives it
find-range-only : (p : ℕ → Bool) (a n t : ℕ) → a ≤ t → t < a + n → p t ≡ true → ((u : ℕ) → a ≤ u → u < a + n → p u ≡ true → u ≡ t) →
    find p (range_with_len a n) ≡ Some t
find-range-only p a n t le lt h only = go (find p (range_with_len a n)) refl
  where
    go : (o : Option ℕ) → find p (range_with_len a n) ≡ o → find p (range_with_len a n) ≡ Some t
    go None e = let none = find-range-none p a n t e le lt in cc
    go (Some u) e = let at = find-range p a n u e in e ∙ ap Some (only u at.0 at.1 at.2)

-- no number of the range passes
find-range-empty : (p : ℕ → Bool) (a n : ℕ) → ((u : ℕ) → a ≤ u → u < a + n → p u ≡ true → ⊥) → find p (range_with_len a n) ≡ None
find-range-empty p a n none = go (find p (range_with_len a n)) refl
  where
    go : (o : Option ℕ) → find p (range_with_len a n) ≡ o → find p (range_with_len a n) ≡ None
    go None e = e
    go (Some u) e = let at = find-range p a n u e in absurd (none u at.0 at.1 at.2)

pub slot_at-commit : (game : Game) (t : ℕ) → 1 ≤ game.ahead → t < game.turns → slot_at game (commit_place game t) ≡ Some (record { what = Commit; turn = t })
unfolding slot_at
slot_at-commit game t d h =
    ap (λ (o : Option ℕ). slot_or o (find (λ u. reveal_place game u == commit_place game t) (range_with_len 0 game.turns)))
    (find-range-only (λ u. commit_place game u == commit_place game t) 0 game.turns t (omega arith) (omega arith) (eq-eqb _ _ refl)
    (λ u le lt e. commit_place-once game u t (omega arith) h (eqb-true _ _ e)))

pub slot_at-reveal : (game : Game) (t : ℕ) → 1 ≤ game.ahead → t < game.turns → slot_at game (reveal_place game t) ≡ Some (record { what = Reveal; turn = t })
unfolding slot_at
slot_at-reveal game t d h =
    ap (λ (o : Option ℕ). slot_or o (find (λ u. reveal_place game u == reveal_place game t) (range_with_len 0 game.turns)))
    (find-range-empty (λ u. commit_place game u == reveal_place game t) 0 game.turns
    (λ u le lt e. commit_place-apart game u t d (omega arith) h (eqb-true _ _ e)))
    ∙ ap (λ (o : Option ℕ). slot_or None o)
    (find-range-only (λ u. reveal_place game u == reveal_place game t) 0 game.turns t (omega arith) (omega arith) (eq-eqb _ _ refl)
    (λ u le lt e. reveal_place-once game u t (omega arith) h (eqb-true _ _ e)))

pub slot_at-past : (game : Game) (n : ℕ) → 1 ≤ game.ahead → 2 * game.turns ≤ n → slot_at game n ≡ None
unfolding slot_at
slot_at-past game n d h =
    ap (λ (o : Option ℕ). slot_or o (find (λ u. reveal_place game u == n) (range_with_len 0 game.turns)))
    (find-range-empty (λ u. commit_place game u == n) 0 game.turns
    (λ u le lt e. let fits = commit_place-fits game u d (omega arith) in let same = eqb-true _ _ e in omega arith))
    ∙ ap (λ (o : Option ℕ). slot_or None o)
    (find-range-empty (λ u. reveal_place game u == n) 0 game.turns
    (λ u le lt e. let fits = reveal_place-fits game u (omega arith) in let same = eqb-true _ _ e in omega arith))
