-- Pairs: the clash of a kind among two or three frames of a turn.
use Rattle.std.proofs.Common.{◌≡◌, ℕ, zero, suc, ◌+◌, ◌<◌, ◌≤◌, [], ◌∷◌, refl, Bool, true, false, sym, ◌∙◌, ap, arith, inl, inr, Option, Some, None}
use Rattle.std.specs.Prelude.{cond, option_map, if◌then◌else◌}
use Rattle.std.specs.List.{range_with_len}
use Rattle.std.specs.Option.{option_or}
use Rattle.std.proofs.lemmas.Bool.{cases_lt}
use Rattle.definitions.specs.declared.findings.Kind.{Kind}
use Rattle.definitions.specs.declared.findings.Kind.TheVariants.{TwoCommits, BadOpening, Collision, Illegal}
use Rattle.definitions.specs.declared.openings.Digest.{Digest}
use Rattle.definitions.specs.Lists.{first_of}
use Rattle.definitions.specs.World.{Game}
use Rattle.definitions.specs.Logs.{digest_eq}
use Rattle.definitions.specs.Held.{Known}
use Rattle.definitions.specs.Findings.{first_pair, kinds}
use Rattle.definition_laws.proofs.Alike.{digest_eq_same, digest_eq_true}
use Rattle.peer_window.specs.declared.received.Received.{Received}
use Rattle.definitions.specs.declared.findings.Finding.{Finding}
use Rattle.peer_window.specs.Clashes.{clash_among, clash_of, show}

-- no clash among fewer than two
pub among_none : (game : Game) (q t : ℕ) (k : Known) (kind : Kind) → clash_among game q t k [] kind ≡ None
unfolding clash_among first_pair
among_none game q t k kind = refl

pub among_one : (game : Game) (q t : ℕ) (k : Known) (x : Received) (kind : Kind) → clash_among game q t k (x ∷ []) kind ≡ None
unfolding clash_among first_pair
among_one game q t k x kind = refl

-- among two: by the one test
pub among_two : (game : Game) (q t : ℕ) (k : Known) (x y : Received) (kind : Kind) (b : Bool) → show game q t k (x ∷ y ∷ []) kind x y ≡ b →
    clash_among game q t k (x ∷ y ∷ []) kind ≡ (if b then Some (clash_of q t kind (x, y)) else None)
unfolding clash_among first_pair
among_two game q t k x y kind b e = ap (λ (a : Bool). option_map (clash_of q t kind) (option_or (option_map (λ z. (x, z)) (cond a (Some y) None)) None)) e ∙ go b
  where
    go : (a : Bool) → option_map (clash_of q t kind) (option_or (option_map (λ z. (x, z)) (cond a (Some y) None)) None) ≡ (if a then Some (clash_of q t kind (x, y)) else None)
    go true = refl
    go false = refl

-- among three of which the first two show nothing: the first that shows the kind with the last
pub among_three : (game : Game) (q t : ℕ) (k : Known) (x y z : Received) (kind : Kind) (a b : Bool) → show game q t k (x ∷ y ∷ z ∷ []) kind x y ≡ false →
    show game q t k (x ∷ y ∷ z ∷ []) kind x z ≡ a → show game q t k (x ∷ y ∷ z ∷ []) kind y z ≡ b →
    clash_among game q t k (x ∷ y ∷ z ∷ []) kind ≡ (if a then Some (clash_of q t kind (x, z)) else if b then Some (clash_of q t kind (y, z)) else None)
unfolding clash_among first_pair
among_three game q t k x y z kind a b e f g =
    ap (λ (c : Bool). option_map (clash_of q t kind) (option_or (option_map (λ w. (x, w)) (cond c (Some y) (cond (show game q t k (x ∷ y ∷ z ∷ []) kind x z) (Some z) None)))
    (option_or (option_map (λ w. (y, w)) (cond (show game q t k (x ∷ y ∷ z ∷ []) kind y z) (Some z) None)) None))) e
    ∙ ap (λ (c : Bool). option_map (clash_of q t kind) (option_or (option_map (λ w. (x, w)) (cond c (Some z) None)) (option_or (option_map (λ w. (y, w)) (cond (show game q t k (x ∷ y ∷ z ∷ []) kind y z) (Some z) None)) None))) f
    ∙ ap (λ (c : Bool). option_map (clash_of q t kind) (option_or (option_map (λ w. (x, w)) (cond a (Some z) None)) (option_or (option_map (λ w. (y, w)) (cond c (Some z) None)) None))) g ∙ go a b
  where
    go : (c d : Bool) → option_map (clash_of q t kind) (option_or (option_map (λ w. (x, w)) (cond c (Some z) None)) (option_or (option_map (λ w. (y, w)) (cond d (Some z) None)) None))
        ≡ (if c then Some (clash_of q t kind (x, z)) else if d then Some (clash_of q t kind (y, z)) else None)
    go true d = refl
    go false true = refl
    go false false = refl

-- the first of the four kinds
pub kinds_are : (f : Kind → Option Finding) (a b c d : Option Finding) → f TwoCommits ≡ a → f BadOpening ≡ b → f Collision ≡ c → f Illegal ≡ d → first_of f kinds ≡ option_or a (option_or b (option_or c (option_or d None)))
kinds_are f a b c d e g h i = rw (e, g, h, i) refl

pub or_none : (a b : Option Finding) → option_or a b ≡ None → (a ≡ None) × (b ≡ None)
or_none None b h = (refl, h)
or_none (Some x) b h = absurd (let e : Some x ≡ None = h in cc)

pub range_none : (f : ℕ → Option Finding) (a n i : ℕ) → first_of f (range_with_len a n) ≡ None → a ≤ i → i < a + n → f i ≡ None
range_none f a zero i h le lt = absurd (omega arith)
range_none f a (suc n) i h le lt =
    let both = or_none (f a) _ h in
    elim (cases_lt a i) [
      | inl after ↦ range_none f (a + 1) n i both.1 (omega arith) (omega arith)
      | inr here ↦ let same : a ≡ i = omega arith in ap f (sym same) ∙ both.0
    ]

pub none_range : (f : ℕ → Option Finding) (a n : ℕ) → ((i : ℕ) → a ≤ i → i < a + n → f i ≡ None) → first_of f (range_with_len a n) ≡ None
none_range f a zero h = refl
none_range f a (suc n) h = ap (λ o. option_or o (first_of f (range_with_len (a + 1) n))) (h a (omega arith) (omega arith)) ∙ none_range f (a + 1) n (λ i le lt. h i (omega arith) (omega arith))

pub range_at : (f : ℕ → Option Finding) (a n i : ℕ) (x : Finding) → a ≤ i → i < a + n → ((j : ℕ) → a ≤ j → j < i → f j ≡ None) → f i ≡ Some x → first_of f (range_with_len a n) ≡ Some x
range_at f a zero i x le lt h e = absurd (omega arith)
range_at f a (suc n) i x le lt h e =
    elim (cases_lt a i) [
      | inl before ↦
          ap (λ o. option_or o (first_of f (range_with_len (a + 1) n))) (h a (omega arith) before) ∙ range_at f (a + 1) n i x (omega arith) (omega arith) (λ j le lt. h j (omega arith) lt) e
      | inr after ↦ let here : a ≡ i = omega arith in ap (λ o. option_or o (first_of f (range_with_len (a + 1) n))) (ap f here ∙ e)
    ]

-- equal digests, either way
pub digest_sym : (a b : Digest) → digest_eq a b ≡ digest_eq b a
digest_sym a b = go (digest_eq a b) refl (digest_eq b a) refl
  where
    go : (x : Bool) → digest_eq a b ≡ x → (y : Bool) → digest_eq b a ≡ y → x ≡ y
    go true e true f = refl
    go false e false f = refl
    go true e false f = sym (ap (digest_eq b) (digest_eq_true a b e) ∙ digest_eq_same b) ∙ f
    go false e true f = sym e ∙ (ap (digest_eq a) (digest_eq_true b a f) ∙ digest_eq_same a)

pub digest_swap : (a b c : Digest) → digest_eq a b ≡ true → digest_eq a c ≡ digest_eq b c
digest_swap a b c e = ap (λ (x : Digest). digest_eq x c) (digest_eq_true a b e)
