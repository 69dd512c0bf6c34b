-- Cleared: players of whom no log shows a finding, and one player more.
use Rattle.std.proofs.Common.{◌≡◌, ℕ, zero, suc, Bool, true, List, [], ◌∷◌, ◌++◌, None, Some, inl, inr, length, slice_get, refl, sym, ap, subst, ◌∙◌, ◌⊎◌}
use Rattle.definitions.specs.World.{Game}
use Rattle.frame_index.specs.Frames.{IndexState}
use Rattle.frame_index.specs.Plain.{AreClear, IsClear}

got_last : (xs : List Bool) (b : Bool) (q : ℕ) → slice_get (xs ++ b ∷ []) q ≡ Some true → (slice_get xs q ≡ Some true) ⊎ ((q ≡ length xs) × (b ≡ true))
got_last [] b zero at = inr (refl, cc)
got_last [] b (suc q) at = absurd (let none : None ≡ Some true = at in cc)
got_last (x ∷ xs) b zero at = inl at
got_last (x ∷ xs) b (suc q) at = go (got_last xs b q at)
  where
    go : (slice_get xs q ≡ Some true) ⊎ ((q ≡ length xs) × (b ≡ true)) → (slice_get xs q ≡ Some true) ⊎ ((suc q ≡ suc (length xs)) × (b ≡ true))
    go (inl there) = inl there
    go (inr last) = inr (ap suc last.0, last.1)

pub clear_more : (game : Game) (index : IndexState) (clear : List Bool) (b : Bool) (n : ℕ) → length clear ≡ n → (b ≡ true → IsClear game index n) → AreClear game index clear → AreClear game index (clear ++ b ∷ [])
clear_more game index clear b n long one before q at = go (got_last clear b q at)
  where
    go : (slice_get clear q ≡ Some true) ⊎ ((q ≡ length clear) × (b ≡ true)) → IsClear game index q
    go (inl there) = before q there
    go (inr last) = subst (IsClear game index) (sym (last.0 ∙ long)) (one last.1)
