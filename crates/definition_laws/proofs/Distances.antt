-- Distances: spheres and meetings in the words of walks and distances.
use Rattle.std.proofs.Common.{List, [], arith, refl, subst, suc, suc-add, sym, true, zero, zero-add, ℕ, ◌*◌, ◌+◌, ◌-◌, ◌∙◌, ◌∷◌, ◌≡◌}
use Rattle.std.specs.Prelude.{nat_le}
use Rattle.std.proofs.lemmas.Bool.{and_from, and_parts, le-leb, leb-true}
use Rattle.definitions.specs.declared.world.Cell.{Cell}
use Rattle.definitions.specs.declared.logs.Entry.{Entry}
use Rattle.definitions.specs.World.{Game, Ground, distance, has_cell, is_open, seat_of}
use Rattle.definitions.specs.Walk.{Walk, is_step, reach_of, walked}
use Rattle.definitions.specs.Sphere.{sphere_of}
use Rattle.definitions.specs.Held.{resolved_count}
use Rattle.definitions.specs.Meets.{cell_before, cells_before, meets}
use Rattle.definitions.proofs.Cells.{any-cell, any-from, cell_eq-same, one_has}
use Rattle.definitions.proofs.Nearness.{has_spread}
use Rattle.definitions.proofs.Walks.{has-begun, has-stepped}
use Rattle.definition_laws.specs.Distances.{IsInSphere, IsMeeting, last_cell}

-- the walked cells are those to which a walk leads from one of the list
pub walked_is_walk : (grid : Ground) (k : ℕ) (cells : List Cell) (c : Cell) → has_cell (walked grid k cells) c ≡ true → (b : Cell) × (has_cell cells b ≡ true) × Walk grid k b c
unfolding walked
walked_is_walk grid zero cells c h = let both = and_parts _ _ (sym (has-begun grid cells c) ∙ h) in (c, both.1, (refl, both.0))
walked_is_walk grid (suc k) cells c h =
    let found = any-cell (λ b. is_step grid b c) (walked grid k cells) (sym (has-stepped grid (walked grid k cells) c) ∙ h) in
    let far = walked_is_walk grid k cells found.0 found.1 in
    (far.0, far.1, (found.0, far.2, found.2))

pub walk_is_walked : (grid : Ground) (k : ℕ) (cells : List Cell) (b c : Cell) → has_cell cells b ≡ true → Walk grid k b c → has_cell (walked grid k cells) c ≡ true
unfolding walked
walk_is_walked grid zero cells b c m w =
    let P : Cell → Type 0 = λ e. has_cell (walked grid 0 cells) e ≡ true in
    subst P w.0 (has-begun grid cells b ∙ and_from _ _ w.1 m)
walk_is_walked grid (suc k) cells b c m w =
    has-stepped grid (walked grid k cells) c ∙ any-from (λ e. is_step grid e c) (walked grid k cells) w.0 (walk_is_walked grid k cells b w.0 m w.1) w.2

-- a walk goes on from where another ended, and can be cut there
pub walk_on : (grid : Ground) (m n : ℕ) (a b c : Cell) → Walk grid m a b → Walk grid n b c → Walk grid (n + m) a c
walk_on grid m zero a b c w v =
    let P : Cell → Type 0 = λ e. Walk grid m a e in
    rw zero-add (subst P v.0 w)
walk_on grid m (suc n) a b c w v =
    let P : ℕ → Type 0 = λ j. Walk grid j a c in
    subst P (sym (suc-add n m)) (v.0, walk_on grid m n a b v.0 w v.1, v.2)

walk_ends_open : (grid : Ground) (k : ℕ) (a b : Cell) → Walk grid k a b → is_open grid b ≡ true
walk_ends_open grid zero a b w = let P : Cell → Type 0 = λ c. is_open grid c ≡ true in subst P w.0 w.1
walk_ends_open grid (suc k) a b w = (and_parts _ _ (and_parts _ _ w.2).0).1

pub walk_cut : (grid : Ground) (m n : ℕ) (a c : Cell) → Walk grid (n + m) a c → (b : Cell) × Walk grid m a b × Walk grid n b c
walk_cut grid m zero a c w =
    let P : ℕ → Type 0 = λ j. Walk grid j a c in
    let v : Walk grid m a c = subst P (zero-add m) w in
    (c, v, (refl, walk_ends_open grid m a c v))
walk_cut grid m (suc n) a c w =
    let P : ℕ → Type 0 = λ j. Walk grid j a c in
    let v : Walk grid (suc (n + m)) a c = subst P (suc-add n m) w in
    let far = walk_cut grid m n a v.0 v.1 in
    (far.0, far.1, (v.0, far.2, v.2))

has_one : (a : Cell) → has_cell (a ∷ []) a ≡ true
has_one a = let s = cell_eq-same a in grind arith

turned : (a b : ℕ) → a + b ≡ b + a
turned a b = omega arith

-- a cell of a sphere, by a walk of one turn and a distance
pub sphere_is_walk : (game : Game) (q : ℕ) (cells : List Cell) (c : Cell) → has_cell (sphere_of game q cells) c ≡ true → IsInSphere game q cells c
sphere_is_walk game q cells c h =
    let near = and_parts _ _ (sym (has_spread game.grid ((seat_of game q).reach + game.rules.blast) (reach_of game q 1 cells) c) ∙ h) in
    let found = any-cell (λ b. nat_le (distance b c) ((seat_of game q).reach + game.rules.blast)) (reach_of game q 1 cells) near.0 in
    let far = walked_is_walk game.grid (1 * (seat_of game q).speed) cells found.0 found.1 in
    let P : ℕ → Type 0 = λ j. Walk game.grid j far.0 found.0 in
    let e : 1 * (seat_of game q).speed ≡ (seat_of game q).speed = omega arith in
    record { from = far.0; to = found.0; begins = far.1; walk = subst P e far.2; inside = near.1; near = leb-true _ _ found.2 }

pub walk_is_sphere : (game : Game) (q : ℕ) (cells : List Cell) (c : Cell) → IsInSphere game q cells c → has_cell (sphere_of game q cells) c ≡ true
walk_is_sphere game q cells c w =
    let P : ℕ → Type 0 = λ j. Walk game.grid j w.from w.to in
    let e : (seat_of game q).speed ≡ 1 * (seat_of game q).speed = omega arith in
    let there = walk_is_walked game.grid (1 * (seat_of game q).speed) cells w.from w.to w.begins (subst P e w.walk) in
    has_spread game.grid ((seat_of game q).reach + game.rules.blast) (reach_of game q 1 cells) c
    ∙ and_from _ _ (any-from (λ b. nat_le (distance b c) ((seat_of game q).reach + game.rules.blast)) (reach_of game q 1 cells) w.to there (le-leb _ _ w.near)) w.inside

pub meets_is_meeting : (game : Game) (me q t : ℕ) (h : List Entry) → meets game me h q t ≡ true → IsMeeting game me h q t
unfolding meets
meets_is_meeting game me q t h m =
    let both = and_parts _ _ m in
    let found = any-cell (has_cell (sphere_of game q (cells_before game me h q t))) (sphere_of game me (cell_before game me h me t ∷ [])) both.1 in
    let ours = sphere_is_walk game me (cell_before game me h me t ∷ []) found.0 found.1 in
    let theirs = sphere_is_walk game q (cells_before game me h q t) found.0 found.2 in
    let far = walked_is_walk game.grid ((t - resolved_count game me h q) * (seat_of game q).speed) (last_cell game me h q ∷ []) theirs.from theirs.begins in
    let P : Cell → Type 0 = λ a. Walk game.grid (seat_of game me).speed a ours.to in
    let Q : Cell → Type 0 = λ a. Walk game.grid ((t - resolved_count game me h q) * (seat_of game q).speed) a theirs.from in
    let R : ℕ → Type 0 = λ j. Walk game.grid j (last_cell game me h q) theirs.to in
    let e : (seat_of game q).speed + (t - resolved_count game me h q) * (seat_of game q).speed ≡ (t - resolved_count game me h q) * (seat_of game q).speed + (seat_of game q).speed = turned _ _ in
    record {
      unresolved = leb-true _ _ both.0;
      own_end = ours.to;
      other_end = theirs.to;
      common = found.0;
      own_walk = subst P (one_has _ _ ours.begins) ours.walk;
      other_walk = subst R e (walk_on game.grid _ _ _ _ _ (subst Q (one_has _ _ far.1) far.2) theirs.walk);
      inside = ours.inside;
      own_near = ours.near;
      other_near = theirs.near;
    }

pub meeting_is_meets : (game : Game) (me q t : ℕ) (h : List Entry) → IsMeeting game me h q t → meets game me h q t ≡ true
unfolding meets
meeting_is_meets game me q t h w =
    let R : ℕ → Type 0 = λ j. Walk game.grid j (last_cell game me h q) w.other_end in
    let e : (t - resolved_count game me h q) * (seat_of game q).speed + (seat_of game q).speed ≡ (seat_of game q).speed + (t - resolved_count game me h q) * (seat_of game q).speed = turned _ _ in
    let cut = walk_cut game.grid ((t - resolved_count game me h q) * (seat_of game q).speed) (seat_of game q).speed (last_cell game me h q) w.other_end (subst R e w.other_walk) in
    let begins = walk_is_walked game.grid ((t - resolved_count game me h q) * (seat_of game q).speed) (last_cell game me h q ∷ []) (last_cell game me h q) cut.0 (has_one (last_cell game me h q)) cut.1 in
    let ours = walk_is_sphere game me (cell_before game me h me t ∷ []) w.common
    (record { from = cell_before game me h me t; to = w.own_end; begins = has_one (cell_before game me h me t); walk = w.own_walk; inside = w.inside; near = w.own_near }) in
    let theirs = walk_is_sphere game q (cells_before game me h q t) w.common
    (record { from = cut.0; to = w.other_end; begins = begins; walk = cut.2; inside = w.inside; near = w.other_near }) in
    and_from _ _ (le-leb _ _ w.unresolved)
    (any-from (has_cell (sphere_of game q (cells_before game me h q t))) (sphere_of game me (cell_before game me h me t ∷ [])) w.common ours theirs)
