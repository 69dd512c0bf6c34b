-- Crossed: the logs with the owners' own frames as frames that were got.
use Rattle.std.proofs.Common.{List, None, Some, [], ap, refl, suc, sym, zero, ℕ, ◌++◌, ◌∙◌, ◌∷◌, ◌≡◌, length, map, slice_get}
use Rattle.definitions.specs.declared.logs.Entry.{Entry}
use Rattle.frame_index.specs.Appended.{with_entry}
use Rattle.auditor.specs.Audits.{crossed, crossed_logs}

crossed_more : (h : List Entry) (e : Entry) → map crossed (h ++ e ∷ []) ≡ map crossed h ++ crossed e ∷ []
crossed_more [] e = refl
crossed_more (x ∷ h) e = ap (λ (xs : List Entry). crossed x ∷ xs) (crossed_more h e)

-- with one entry more
pub crossed_with : (logs : List (List Entry)) (i : ℕ) (e : Entry) → with_entry (crossed_logs logs) i (crossed e) ≡ crossed_logs (with_entry logs i e)
crossed_with [] i e = refl
crossed_with (h ∷ hs) zero e = ap (λ (x : List Entry). x ∷ crossed_logs hs) (sym (crossed_more h e))
crossed_with (h ∷ hs) (suc i) e = ap (λ (xs : List (List Entry)). map crossed h ∷ xs) (crossed_with hs i e)

pub crossed_there : (logs : List (List Entry)) (i : ℕ) (h : List Entry) → slice_get logs i ≡ Some h → slice_get (crossed_logs logs) i ≡ Some (map crossed h)
crossed_there [] i h e = absurd (let none : None ≡ Some h = e in cc)
crossed_there (x ∷ xs) zero h e = let same : x ≡ h = cc in ap (λ (y : List Entry). Some (map crossed y)) same
crossed_there (x ∷ xs) (suc i) h e = crossed_there xs i h e

pub crossed_length : (h : List Entry) → length (map crossed h) ≡ length h
crossed_length [] = refl
crossed_length (x ∷ h) = ap suc (crossed_length h)

-- empty logs stay empty
pub crossed_none : (logs : List (List Entry)) → ((i : ℕ) (h : List Entry) → slice_get logs i ≡ Some h → h ≡ []) → (i : ℕ) (h : List Entry) → slice_get (crossed_logs logs) i ≡ Some h → h ≡ []
crossed_none [] none i h e = absurd (let nothing : None ≡ Some h = e in cc)
crossed_none (x ∷ xs) none zero h e = let same : map crossed x ≡ h = cc in sym same ∙ ap (map crossed) (none zero x refl)
crossed_none (x ∷ xs) none (suc i) h e = crossed_none xs (λ j g at. none (suc j) g at) i h e
