-- Sights: the cells to which a player was followed, and its sphere.
use Rattle.std.proofs.Common.{◌≡◌, ℕ, zero, suc, ◌+◌, List, [], ◌∷◌, refl, sym, ap, ◌∙◌}
use Rattle.std.specs.Prelude.{slice_set}
use Rattle.definitions.specs.declared.world.Cell.{Cell}
use Rattle.definitions.specs.Lists.{item_or}
use Rattle.definitions.specs.World.{Game}
use Rattle.definitions.specs.Walk.{reach_of}
use Rattle.definitions.specs.Sphere.{sphere_of}
use Rattle.cell_set.specs.Regions.{Region, with_cells}
use Rattle.influence.specs.Strikes.{struck_from}
use Rattle.influence.proofs.Turns.{sphere_of_reach}
use Rattle.dilation.specs.Dilated.{Dilated, cell_of, kept_of, kept_set, turns_of}

-- the cells to which a player was followed
pub reached_cells : (game : Game) (d new : Dilated) (r : Region) (q missed : ℕ) → new.cells ≡ d.cells → kept_of (turns_of new.kept) q ≡ missed → r ≡ kept_set game new q → r.cells ≡ reach_of game q missed (cell_of d.cells q ∷ [])
reached_cells game d new r q missed stay turns is =
    ap (λ (s : Region). s.cells) is ∙ ap (λ (n : ℕ). reach_of game q n (cell_of new.cells q ∷ [])) turns ∙ ap (λ (cs : List Cell). reach_of game q missed (cell_of cs q ∷ [])) stay

-- a strike from where a player can be a turn later is its sphere
pub sphere_struck : (game : Game) (d new : Dilated) (reached copied theirs : Region) (q missed : ℕ) → new.cells ≡ d.cells → kept_of (turns_of new.kept) q ≡ missed + 1 →
    reached ≡ kept_set game new q → copied ≡ reached → theirs ≡ with_cells copied (struck_from game q copied.cells) → theirs.cells ≡ sphere_of game q (reach_of game q missed (cell_of d.cells q ∷ []))
sphere_struck game d new reached copied theirs q missed stay turns is copy struck =
    ap (λ (r : Region). r.cells) struck ∙ ap (λ (r : Region). struck_from game q r.cells) copy
    ∙ ap (struck_from game q) (reached_cells game d new reached q (missed + 1) stay turns is) ∙ sym (sphere_of_reach game q missed (cell_of d.cells q ∷ []))

-- a player that is seen where it stood leaves the cells as they are
pub item_stays : {X : Type 0} (xs : List X) (i : ℕ) (x d : X) → item_or xs i d ≡ x → slice_set xs i x ≡ xs
item_stays [] i x d is = refl
item_stays (y ∷ xs) zero x d is = ap (λ z. z ∷ xs) (sym is)
item_stays (y ∷ xs) (suc i) x d is = ap (λ zs. y ∷ zs) (item_stays xs i x d is)
