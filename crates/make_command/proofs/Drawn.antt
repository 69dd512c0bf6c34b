-- Drawn: the walls and the starts of a session, place by place.
use Rattle.std.proofs.Common.{◌≡◌, ℕ, suc, ◌+◌, true, false, List, [], ◌∷◌, ◌++◌, refl, sym, ap, subst, ◌∙◌, arith}
use Rattle.rand_pcg.specs.Lcg.{Lcg}
use Rattle.definitions.specs.declared.world.Cell.{Cell}
use Rattle.definitions.specs.World.{has_cell}
use Rattle.make_command.specs.declared.sizes.TheConstants.{CELLS, CELLS_A_WALL}
use Rattle.pilots.specs.Draws.{draw}
use Rattle.make_command.specs.Making.{cell_at, open_place, place_behind, starts_of, walls_of, with_wall}

-- one cell more is drawn for
pub walls_more : (n : ℕ) (g : Lcg) → walls_of (suc n) g ≡ (with_wall (walls_of n g).0 n (draw CELLS_A_WALL (walls_of n g).1).0, (draw CELLS_A_WALL (walls_of n g).1).1)
unfolding walls_of
walls_more n g = refl

pub walls_begun : (g : Lcg) → walls_of 0 g ≡ ([], g)
unfolding walls_of
walls_begun g = refl

-- one start more is drawn
pub starts_more : (walls : List Cell) (k : ℕ) (g : Lcg) →
    starts_of walls (suc k) g ≡ ((starts_of walls k g).0 ++ (cell_at (open_place walls CELLS (draw CELLS (starts_of walls k g).1).0) ∷ []), (draw CELLS (starts_of walls k g).1).1)
unfolding starts_of
starts_more walls k g = refl

pub starts_begun : (walls : List Cell) (g : Lcg) → starts_of walls 0 g ≡ ([], g)
unfolding starts_of
starts_begun walls g = refl

-- a wall is passed over, and another cell is found
pub place_on : (walls : List Cell) (n place : ℕ) → has_cell walls (cell_at place) ≡ true → open_place walls (suc n) place ≡ open_place walls n (place_behind place)
unfolding open_place
place_on walls n place h = rw h refl

pub place_found : (walls : List Cell) (n place : ℕ) → has_cell walls (cell_at place) ≡ false → open_place walls (suc n) place ≡ place
unfolding open_place
place_found walls n place h = rw h refl

pub place_none : (walls : List Cell) (place : ℕ) → open_place walls 0 place ≡ place
unfolding open_place
place_none walls place = refl

-- what was drawn for one cell more
pub walls_next : (n : ℕ) (g : Lcg) (walls : List Cell) (h : Lcg) (d : ℕ) (k : Lcg) (new : List Cell) →
    (walls, h) ≡ walls_of n g → (d, k) ≡ draw CELLS_A_WALL h → new ≡ with_wall walls n d → (new, k) ≡ walls_of (n + 1) g
walls_next n g walls h d k new e f w =
    let P : List Cell × Lcg → Type 0 = λ x. ◌≡◌ {A = List Cell × Lcg} (new, k) (with_wall x.0 n (draw CELLS_A_WALL x.1).0, (draw CELLS_A_WALL x.1).1) in
    let Q : ℕ × Lcg → Type 0 = λ y. ◌≡◌ {A = List Cell × Lcg} (new, k) (with_wall walls n y.0, y.1) in
    let one : n + 1 ≡ suc n = omega arith in
    let here : ◌≡◌ {A = List Cell × Lcg} (new, k) (with_wall walls n d, k) = ap (λ (v : List Cell). (v, k)) w in
    subst P e (subst Q f here) ∙ sym (walls_more n g) ∙ ap (λ m. walls_of m g) (sym one)

-- what was drawn for one player more
pub starts_next : (walls : List Cell) (n : ℕ) (g : Lcg) (starts : List Cell) (h : Lcg) (d : ℕ) (k : Lcg) (new : List Cell) →
    (starts, h) ≡ starts_of walls n g → (d, k) ≡ draw CELLS h → new ≡ starts ++ (cell_at (open_place walls CELLS d) ∷ []) → (new, k) ≡ starts_of walls (n + 1) g
starts_next walls n g starts h d k new e f w =
    let P : List Cell × Lcg → Type 0 = λ x. ◌≡◌ {A = List Cell × Lcg} (new, k) (x.0 ++ (cell_at (open_place walls CELLS (draw CELLS x.1).0) ∷ []), (draw CELLS x.1).1) in
    let Q : ℕ × Lcg → Type 0 = λ y. ◌≡◌ {A = List Cell × Lcg} (new, k) (starts ++ (cell_at (open_place walls CELLS y.0) ∷ []), y.1) in
    let one : n + 1 ≡ suc n = omega arith in
    let here : ◌≡◌ {A = List Cell × Lcg} (new, k) (starts ++ (cell_at (open_place walls CELLS d) ∷ []), k) = ap (λ (v : List Cell). (v, k)) w in
    subst P e (subst Q f here) ∙ sym (starts_more walls n g) ∙ ap (λ m. starts_of walls m g) (sym one)
