-- Followed: the sets that are kept, as they begin and grow.
use Rattle.std.proofs.Common.{◌≡◌, ℕ, suc, ◌+◌, ◌-◌, ◌*◌, ◌≤◌, Bool, true, false, [], ◌∷◌, sym, ap, ◌∙◌, arith, subst}
use Rattle.std.specs.Prelude.{not, ◌↔◌, IsTrue}
use Rattle.std.proofs.lemmas.Bool.{false≢true}
use Rattle.definitions.specs.declared.world.Cell.{Cell}
use Rattle.definitions.specs.World.{Ground, Game, has_cell, is_open, seat_of}
use Rattle.definitions.specs.Walk.{stepped, walked}
use Rattle.definitions.proofs.Walks.{walked_open}
use Rattle.cell_set.specs.Regions.{Region, IsSizeOf, AreOpen, with_cells}
use Rattle.dilation.specs.declared.growth.Kept.{Kept}
use Rattle.dilation.specs.Following.{IsFollowed, IsKept}
use Rattle.dilation.proofs.Still.{walked_one, walked_still}

-- a set of one cell was followed for no step
pub followed_begun : (grid : Ground) (cell : Cell) (kept : Kept) → IsSizeOf grid kept.reached → kept.reached.cells ≡ cell ∷ [] → kept.full ≡ false → is_open grid cell ≡ true → IsFollowed grid cell 0 kept
followed_begun grid cell kept size is partial opens = record {
  size = size;
  cells = is ∙ sym (walked_one grid cell opens);
  full = λ f. absurd (false≢true (sym partial ∙ f));
}

-- nor for a turn
pub kept_begun : (game : Game) (player : ℕ) (cell : Cell) (kept : Kept) → kept.turns ≡ 0 → IsSizeOf game.grid kept.reached → kept.reached.cells ≡ cell ∷ [] → kept.full ≡ false → is_open game.grid cell ≡ true → IsKept game player cell kept
kept_begun game player cell kept none size is partial opens =
    let P : ℕ → Type 0 = λ n. IsFollowed game.grid cell n kept in
    let no_steps : kept.turns * (seat_of game player).speed ≡ 0 = ap (λ n. n * (seat_of game player).speed) none ∙ omega arith in
    record {
      within = omega (arith, none);
      followed = subst P (sym no_steps) (followed_begun game.grid cell kept size is partial opens);
    }

-- all of its cells are open
pub followed_open : (grid : Ground) (cell : Cell) (k : ℕ) (kept : Kept) → IsFollowed grid cell k kept → AreOpen grid kept.reached.cells
followed_open grid cell k kept is c has = walked_open grid k (cell ∷ []) c (ap (λ cs. has_cell cs c) (sym is.cells) ∙ has)

-- a step more
pub followed_more : (grid : Ground) (cell : Cell) (k turns : ℕ) (kept : Kept) (new : Region) (change : Bool) → IsFollowed grid cell k kept →
    new ≡ with_cells kept.reached (stepped grid kept.reached.cells) → (IsTrue (not change) ↔ (new ≡ kept.reached)) →
    IsFollowed grid cell (k + 1) (record { turns = turns; full = not change; reached = new })
unfolding walked
followed_more grid cell k turns kept new change is step same =
    let e : suc k ≡ k + 1 = omega arith in
    record {
      size = record {
        width = ap (λ (r : Region). r.width) step ∙ is.size.width;
        height = ap (λ (r : Region). r.height) step ∙ is.size.height;
      };
      cells = ap (λ (r : Region). r.cells) step ∙ ap (stepped grid) is.cells ∙ ap (λ n. walked grid n (cell ∷ [])) e;
      full = λ f. ap (λ (r : Region). stepped grid r.cells) (same.0 f) ∙ ap (λ (r : Region). r.cells) (sym step);
    }

-- a full set is that of any further steps
pub followed_full : (grid : Ground) (cell : Cell) (k n : ℕ) (kept : Kept) → IsFollowed grid cell k kept → kept.full ≡ true → k ≤ n → IsFollowed grid cell n kept
followed_full grid cell k n kept is full le =
    let still : stepped grid (walked grid k (cell ∷ [])) ≡ walked grid k (cell ∷ []) = ap (stepped grid) (sym is.cells) ∙ is.full full ∙ is.cells in
    let e : n - k + k ≡ n = omega arith in
    record {
      size = is.size;
      cells = is.cells ∙ sym (walked_still grid k (n - k) (cell ∷ []) still) ∙ ap (λ m. walked grid m (cell ∷ [])) e;
      full = is.full;
    }
