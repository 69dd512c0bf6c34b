-- Once: no frame is kept twice, and none has two spots in one log.
use Rattle.std.proofs.Common.{Bool, List, None, Some, [], ap, false, inl, inr, refl, suc, subst, sym, true, zero, ℕ, ◌++◌, ◌∙◌, ◌∷◌, ◌≡◌, ◌⊎◌, length, set, slice_get}
use Rattle.std.specs.Prelude.{◌==◌, ◌||◌, if◌then◌else◌}
use Rattle.std.specs.List.{list_any}
use Rattle.std.proofs.lemmas.Bool.{eqb-false, false≢true}
use Rattle.definitions.specs.declared.findings.Spot.{Spot}
use Rattle.definition_laws.specs.Members.{Has}
use Rattle.definition_laws.proofs.Members.{slice_get_Has}
use Rattle.frame_index.specs.declared.kept.KeptFrame.{KeptFrame}
use Rattle.frame_index.specs.Kept.{AreOnce}
use Rattle.frame_index.specs.Spots.{AreOfLogs, spot_noted}

-- what stands in a list with another item at one place
pub set_get : {X : Type 0} (xs : List X) (at : ℕ) (l : X) (i : ℕ) (x : X) → slice_get (set xs at l) i ≡ Some x → ((i ≡ at) × (x ≡ l)) ⊎ (slice_get xs i ≡ Some x)
set_get [] at l i x h = inr h
set_get (y ∷ ys) zero l zero x h = inl (refl, let e : Some l ≡ Some x = h in cc)
set_get (y ∷ ys) zero l (suc i) x h = inr h
set_get (y ∷ ys) (suc at) l zero x h = inr h
set_get (y ∷ ys) (suc at) l (suc i) x h = go (set_get ys at l i x h)
  where
    go : ((i ≡ at) × (x ≡ l)) ⊎ (slice_get ys i ≡ Some x) → ((suc i ≡ suc at) × (x ≡ l)) ⊎ (slice_get ys i ≡ Some x)
    go (inl (e, f)) = inl (ap suc e, f)
    go (inr g) = inr g

-- and with one item behind the others
pub push_get : {X : Type 0} (xs : List X) (l : X) (i : ℕ) (x : X) → slice_get (xs ++ l ∷ []) i ≡ Some x → (slice_get xs i ≡ Some x) ⊎ ((i ≡ length xs) × (x ≡ l))
push_get [] l zero x h = inr (refl, let e : Some l ≡ Some x = h in cc)
push_get [] l (suc i) x h = absurd (let e : None ≡ Some x = h in cc)
push_get (y ∷ ys) l zero x h = inl h
push_get (y ∷ ys) l (suc i) x h = go (push_get ys l i x h)
  where
    go : (slice_get ys i ≡ Some x) ⊎ ((i ≡ length ys) × (x ≡ l)) → (slice_get ys i ≡ Some x) ⊎ ((suc i ≡ suc (length ys)) × (x ≡ l))
    go (inl g) = inl g
    go (inr (e, f)) = inr (ap suc e, f)

not_any : (xs : List Spot) (l : ℕ) → list_any (λ y. y.log == l) xs ≡ false → (x : Spot) → Has xs x → x.log ≡ l → ⊥
not_any [] l h x m e = m
not_any (y ∷ ys) l h x m e = go (y.log == l) refl h m (λ g n. not_any ys l g x n e)
  where
    go : (b : Bool) → (y.log == l) ≡ b → (b || list_any (λ z. z.log == l) ys) ≡ false → Has (y ∷ ys) x → (list_any (λ z. z.log == l) ys ≡ false → Has ys x → ⊥) → ⊥
    go true t h m ih = false≢true (sym h)
    go false t h (inl same) ih = eqb-false y.log l t (ap (λ (s : Spot). s.log) same ∙ e)
    go false t h (inr m) ih = ih h m

-- a spot is noted, unless its log has one
pub logs_noted : (ss : List Spot) (s : Spot) → AreOfLogs ss → AreOfLogs (spot_noted ss s)
logs_noted ss s apart = go (list_any (λ x. x.log == s.log) ss) refl
  where
    more : list_any (λ x. x.log == s.log) ss ≡ false → AreOfLogs (ss ++ s ∷ [])
    more none i j a b at bt same = both (push_get ss s i a at) (push_get ss s j b bt)
      where
        both : (slice_get ss i ≡ Some a) ⊎ ((i ≡ length ss) × (a ≡ s)) → (slice_get ss j ≡ Some b) ⊎ ((j ≡ length ss) × (b ≡ s)) → i ≡ j
        both (inl x) (inl y) = apart i j a b x y same
        both (inl x) (inr (e, f)) = absurd (not_any ss s.log none a (slice_get_Has ss i a x) (same ∙ ap (λ (r : Spot). r.log) f))
        both (inr (e, f)) (inl y) = absurd (not_any ss s.log none b (slice_get_Has ss j b y) (sym same ∙ ap (λ (r : Spot). r.log) f))
        both (inr (e, f)) (inr (g, h)) = e ∙ sym g

    go : (b : Bool) → list_any (λ x. x.log == s.log) ss ≡ b → AreOfLogs (if b then ss else ss ++ s ∷ [])
    go true e = apart
    go false e = more e

pub logs_one : (s : Spot) → AreOfLogs (s ∷ [])
logs_one s zero zero a b at bt same = refl
logs_one s zero (suc j) a b at bt same = absurd (let e : None ≡ Some b = bt in cc)
logs_one s (suc i) j a b at bt same = absurd (let e : None ≡ Some a = at in cc)

-- the spots of one frame change
pub once_set : (ks : List KeptFrame) (at : ℕ) (k l : KeptFrame) → slice_get ks at ≡ Some k → l.frame ≡ k.frame → (AreOfLogs k.spots.items → AreOfLogs l.spots.items) → AreOnce ks → AreOnce (set ks at l)
once_set ks at k l there frame logs once = record { frames = frames; spots = spots }
  where
    -- the frame that stood there
    stood : (i : ℕ) (a : KeptFrame) → slice_get (set ks at l) i ≡ Some a → (b : KeptFrame) × (slice_get ks i ≡ Some b) × (a.frame ≡ b.frame)
    stood i a h = go (set_get ks at l i a h)
      where
        go : ((i ≡ at) × (a ≡ l)) ⊎ (slice_get ks i ≡ Some a) → (b : KeptFrame) × (slice_get ks i ≡ Some b) × (a.frame ≡ b.frame)
        go (inl (e, f)) = (k, ap (slice_get ks) e ∙ there, ap (λ (x : KeptFrame). x.frame) f ∙ frame)
        go (inr g) = (a, g, refl)

    frames : (i j : ℕ) (a b : KeptFrame) → slice_get (set ks at l) i ≡ Some a → slice_get (set ks at l) j ≡ Some b → a.frame ≡ b.frame → i ≡ j
    frames i j a b x y same = let r = stood i a x in let s = stood j b y in once.frames i j r.0 s.0 r.1 s.1 (sym r.2 ∙ same ∙ s.2)

    spots : (i : ℕ) (a : KeptFrame) → slice_get (set ks at l) i ≡ Some a → AreOfLogs a.spots.items
    spots i a h = go (set_get ks at l i a h)
      where
        go : ((i ≡ at) × (a ≡ l)) ⊎ (slice_get ks i ≡ Some a) → AreOfLogs a.spots.items
        go (inl (e, f)) = subst (λ (x : KeptFrame). AreOfLogs x.spots.items) (sym f) (logs (once.spots at k there))
        go (inr g) = once.spots i a g

-- a frame that isn't kept comes behind the others
pub once_more : (ks : List KeptFrame) (l : KeptFrame) → ((i : ℕ) (k : KeptFrame) → slice_get ks i ≡ Some k → k.frame ≡ l.frame → ⊥) → AreOfLogs l.spots.items → AreOnce ks → AreOnce (ks ++ l ∷ [])
once_more ks l new logs once = record { frames = frames; spots = spots }
  where
    frames : (i j : ℕ) (a b : KeptFrame) → slice_get (ks ++ l ∷ []) i ≡ Some a → slice_get (ks ++ l ∷ []) j ≡ Some b → a.frame ≡ b.frame → i ≡ j
    frames i j a b x y same = both (push_get ks l i a x) (push_get ks l j b y)
      where
        both : (slice_get ks i ≡ Some a) ⊎ ((i ≡ length ks) × (a ≡ l)) → (slice_get ks j ≡ Some b) ⊎ ((j ≡ length ks) × (b ≡ l)) → i ≡ j
        both (inl g) (inl h) = once.frames i j a b g h same
        both (inl g) (inr (e, f)) = absurd (new i a g (same ∙ ap (λ (k : KeptFrame). k.frame) f))
        both (inr (e, f)) (inl h) = absurd (new j b h (sym same ∙ ap (λ (k : KeptFrame). k.frame) f))
        both (inr (e, f)) (inr (g, h)) = e ∙ sym g

    spots : (i : ℕ) (a : KeptFrame) → slice_get (ks ++ l ∷ []) i ≡ Some a → AreOfLogs a.spots.items
    spots i a h = go (push_get ks l i a h)
      where
        go : (slice_get ks i ≡ Some a) ⊎ ((i ≡ length ks) × (a ≡ l)) → AreOfLogs a.spots.items
        go (inl g) = once.spots i a g
        go (inr (e, f)) = subst (λ (x : KeptFrame). AreOfLogs x.spots.items) (sym f) logs

pub once_none : AreOnce []
once_none = record { frames = λ i j k l at. absurd (let e : None ≡ Some k = at in cc); spots = λ i k at. absurd (let e : None ≡ Some k = at in cc) }
