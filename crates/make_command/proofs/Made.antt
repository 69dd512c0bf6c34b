-- Made: the walls that are drawn stand in row order, the starts are open, and the session of a number is one that its text says.
use Rattle.std.proofs.Common.{◌≡◌, ◌⊎◌, inl, inr, ℕ, zero, suc, ◌+◌, ◌*◌, ◌/◌, ◌%◌, ◌<◌, Bool, true, false, List, [], ◌∷◌, ◌++◌, length, map, refl, sym, ap, subst, ◌∙◌, arith, length-append}
use Rattle.std.specs.Prelude.{◌&&◌, ◌==◌, if◌then◌else◌, not}
use Rattle.std.proofs.lemmas.List.{length-map}
use Rattle.std.proofs.lemmas.Bool.{and_parts, and_from, cases_order, eq-eqb, eqb-true, false≢true, lt-ltb, or_left, or_right}
use Rattle.plain_lemmas.proofs.Each.{each_push, each_kept, each_map}
use Rattle.sha2.specs.Sha256.{sha256}
use Rattle.rand_pcg.specs.Lcg.{Lcg}
use Rattle.definitions.specs.declared.world.Cell.{Cell}
use Rattle.definitions.specs.Lists.{EachIs}
use Rattle.definitions.specs.World.{Ground, cell_eq, has_cell, in_row_order, is_before, is_inside, is_open}
use Rattle.definitions.proofs.Cells.{has-append}
use Rattle.grid_world.specs.Answers.{IsReadFrom}
use Rattle.grid_world.specs.Grids.{IsGrid}
use Rattle.grid_world.specs.Sessions.{GoesByTheRules, IsSeat, IsSession}
use Rattle.grid_world.specs.Text.{session_text}
use Rattle.grid_world.proofs.Kept.{length-sha256}
use Rattle.make_command.specs.declared.sizes.TheConstants.{CELLS, CELLS_A_WALL, PLAYERS, SIDE}
use Rattle.pilots.specs.Draws.{draw, generator_of}
use Rattle.make_command.specs.Making.{cell_at, made_rules, made_session, open_place, place_behind, plain_game, seat_at, starts_of, walls_of, with_id, with_wall}
use Rattle.pilots.proofs.Legal.{draw_below}
use Rattle.make_command.proofs.Drawn.{place_found, place_on, starts_begun, starts_more, walls_begun, walls_more}

-- walls that were drawn for the first so many cells
record AreDrawn (count : ℕ) (walls : List Cell) : Type 0 where
  order : in_row_order walls ≡ true
  below : EachIs (λ c. (c.x < 64) × (c.y * 64 + c.x < count)) walls
  first : has_cell walls (cell_at 0) ≡ false

-- a cell that stands below a place is before the cell at that place
below_before : (n : ℕ) (d : Cell) → d.x < 64 → d.y * 64 + d.x < n → is_before d (cell_at n) ≡ true
below_before n d in_row below =
    elim (cases_order d.y (n / 64)) [
      | inl same ↦ or_right _ _ (and_from _ _ (eq-eqb _ _ same) (lt-ltb _ _ (omega arith)))
      | inr rest ↦ elim rest [
        | inl lt ↦ or_left _ _ (lt-ltb _ _ lt)
        | inr gt ↦ absurd (omega arith)
      ]
    ]

-- a cell behind all others in row order
order_more : (cs : List Cell) (n : ℕ) → in_row_order cs ≡ true → EachIs (λ c. (c.x < 64) × (c.y * 64 + c.x < n)) cs → in_row_order (cs ++ (cell_at n ∷ [])) ≡ true
order_more [] n order below = refl
order_more (c ∷ []) n order below = and_from _ _ (below_before n c below.0.0 below.0.1) refl
order_more (c ∷ d ∷ cs) n order below =
    let parts = and_parts (is_before c d) (in_row_order (d ∷ cs)) order in
    and_from _ _ parts.0 (order_more (d ∷ cs) n parts.1 below.1)

-- the first cell is none behind it
first_apart : (n : ℕ) → (n == 0) ≡ false → cell_eq (cell_at 0) (cell_at n) ≡ false
first_apart n some = let P : (n % 64 ≡ 0) → (n / 64 ≡ 0) → ⊥ = λ x y. let e : n ≡ 0 = omega arith in false≢true (sym some ∙ eq-eqb n 0 e) in go (0 == n % 64) (0 == n / 64) refl refl P
  where
    go : (a b : Bool) → (0 == n % 64) ≡ a → (0 == n / 64) ≡ b → ((n % 64 ≡ 0) → (n / 64 ≡ 0) → ⊥) → ((0 == n % 64) && (0 == n / 64)) ≡ false
    go true true p q none = absurd (none (sym (eqb-true 0 (n % 64) p)) (sym (eqb-true 0 (n / 64) q)))
    go true false p q none = rw (p, q) refl
    go false b p q none = rw p refl

-- one cell more is drawn for
drawn_more : (walls : List Cell) (n d : ℕ) → AreDrawn n walls → AreDrawn (suc n) (with_wall walls n d)
drawn_more walls n d w = go ((d == 0) && not (n == 0)) refl
  where
    later : EachIs (λ c. (c.x < 64) × (c.y * 64 + c.x < suc n)) walls
    later = each_kept (λ c. (c.x < 64) × (c.y * 64 + c.x < n)) (λ c. (c.x < 64) × (c.y * 64 + c.x < suc n)) walls (λ c h. (h.0, omega (arith, h.1))) w.below

    go : (b : Bool) → ((d == 0) && not (n == 0)) ≡ b → AreDrawn (suc n) (if b then walls ++ (cell_at n ∷ []) else walls)
    go false e = record { order = w.order; below = later; first = w.first }
    go true e =
        let some : (n == 0) ≡ false = let h = (and_parts (d == 0) (not (n == 0)) e).1 in grind arith in
        let apart : has_cell (cell_at n ∷ []) (cell_at 0) ≡ false = let h = first_apart n some in grind (arith, h) in
        record {
          order = order_more walls n w.order w.below;
          below = each_push (λ c. (c.x < 64) × (c.y * 64 + c.x < suc n)) walls (cell_at n) later (omega arith, omega arith);
          first = has-append walls (cell_at n ∷ []) (cell_at 0) ∙ rw (w.first, apart) refl;
        }

-- so all walls are
walls_drawn : (n : ℕ) (g : Lcg) → AreDrawn n (walls_of n g).0
walls_drawn zero g = let P : List Cell × Lcg → Type 0 = λ x. AreDrawn 0 x.0 in subst P (sym (walls_begun g)) (record { order = refl; below = tt; first = refl })
walls_drawn (suc n) g =
    let P : List Cell × Lcg → Type 0 = λ x. AreDrawn (suc n) x.0 in
    let before = walls_of n g in
    subst P (sym (walls_more n g)) (drawn_more before.0 n (draw CELLS_A_WALL before.1).0 (walls_drawn n g))

-- a cell of the grid that is no wall
abbrev pub IsFree : List Cell → (place : ℕ) → Type 0
IsFree walls place = (place < CELLS) × (has_cell walls (cell_at place) ≡ false)

-- so many places from this one on lead past the last one, or begin with the first
abbrev pub LeadRound : (n place : ℕ) → Type 0
LeadRound n place = (CELLS < n + place) ⊎ ((place ≡ 0) × (0 < n))

round_more : (walls : List Cell) (n place : ℕ) → has_cell walls (cell_at 0) ≡ false → has_cell walls (cell_at place) ≡ true → place < CELLS → LeadRound (suc n) place → LeadRound n (place_behind place)
round_more walls n place first wall lt enough =
    elim enough [
      | inl far ↦ elim (cases_order (place + 1) CELLS) [
        | inl last ↦ inr (omega arith, omega arith)
        | inr rest ↦ elim rest [
          | inl on ↦ inl (omega arith)
          | inr past ↦ absurd (omega arith)
        ]
      ]
      | inr here ↦ absurd (false≢true (sym first ∙ ap (λ p. has_cell walls (cell_at p)) (sym here.0) ∙ wall))
    ]

-- where a start is sought, one is found: the first cell is no wall
found_free : (walls : List Cell) (n place : ℕ) → has_cell walls (cell_at 0) ≡ false → place < CELLS → LeadRound n place → IsFree walls (open_place walls n place)
found_free walls zero place first lt enough = elim enough [ inl far ↦ absurd (omega arith) | inr here ↦ absurd (omega (arith, here.1)) ]
found_free walls (suc n) place first lt enough =
    by_wall (has_cell walls (cell_at place)) refl (λ more. found_free walls n (place_behind place) first (omega arith) more)
  where
    by_wall : (b : Bool) → has_cell walls (cell_at place) ≡ b → (LeadRound n (place_behind place) → IsFree walls (open_place walls n (place_behind place))) → IsFree walls (open_place walls (suc n) place)
    by_wall true wall ih = subst (IsFree walls) (sym (place_on walls n place wall)) (ih (round_more walls n place first wall lt enough))
    by_wall false free ih = subst (IsFree walls) (sym (place_found walls n place free)) (lt, free)

-- a start
abbrev pub IsStart : List Cell → Cell → Type 0
IsStart walls c = (c.x < 64) × (c.y < 64) × (has_cell walls c ≡ false)

starts_free : (walls : List Cell) (k : ℕ) (g : Lcg) → has_cell walls (cell_at 0) ≡ false → (length (starts_of walls k g).0 ≡ k) × EachIs (IsStart walls) (starts_of walls k g).0
starts_free walls zero g first = let P : List Cell × Lcg → Type 0 = λ x. (length x.0 ≡ 0) × EachIs (IsStart walls) x.0 in subst P (sym (starts_begun walls g)) (refl, tt)
starts_free walls (suc k) g first =
    let P : List Cell × Lcg → Type 0 = λ x. (length x.0 ≡ suc k) × EachIs (IsStart walls) x.0 in
    let before = starts_of walls k g in
    let d = (draw CELLS before.1).0 in
    let below : d < CELLS = draw_below CELLS before.1 (omega arith) in
    let round : LeadRound CELLS d = elim (cases_order d 0) [ inl none ↦ inr (none, omega arith) | inr rest ↦ inl (omega (arith, some d rest)) ] in
    let free = found_free walls CELLS d first below round in
    let c = cell_at (open_place walls CELLS d) in
    let ih = starts_free walls k g first in
    let len : length (before.0 ++ (c ∷ [])) ≡ suc k = length-append before.0 (c ∷ []) ∙ omega (arith, ih.0) in
    subst P (sym (starts_more walls k g)) (len, each_push (IsStart walls) before.0 c ih.1 (omega arith, omega (arith, free.0), free.1))
  where
    some : (d : ℕ) → (d < 0) ⊎ (0 < d) → 0 < d
    some d rest = elim rest [ inl none ↦ absurd (omega arith) | inr more ↦ more ]

-- the ground of the session
abbrev pub made_ground : List Cell → Ground
made_ground walls = record { width = SIDE; height = SIDE; walls = walls }

drawn_grid : (walls : List Cell) → AreDrawn CELLS walls → IsGrid (made_ground walls)
drawn_grid walls w = record {
  width = (omega arith, omega arith);
  height = (omega arith, omega arith);
  walls = w.order;
  inside = each_kept (λ c. (c.x < 64) × (c.y * 64 + c.x < CELLS)) (λ c. is_inside (made_ground walls) c ≡ true) walls (λ c h. and_from _ _ (lt-ltb c.x 64 h.0) (lt-ltb c.y 64 (omega (arith, h.0, h.1)))) w.below;
}

each_any : (P : Cell → Type 0) (cs : List Cell) → ((c : Cell) → P c) → EachIs P cs
each_any P [] f = tt
each_any P (c ∷ cs) f = (f c, each_any P cs f)

start_open : (walls : List Cell) (c : Cell) → IsStart walls c → is_open (made_ground walls) c ≡ true
start_open walls c is = and_from _ _ (and_from _ _ (lt-ltb c.x 64 is.0) (lt-ltb c.y 64 is.1)) (ap not is.2)

-- the session with the id of any text of bytes is one that a text may say
made_is_session : (walls starts : List Cell) (id : List ℕ) → length id ≡ 32 → AreDrawn CELLS walls → length starts ≡ PLAYERS → EachIs (IsStart walls) starts → IsSession (record (plain_game walls starts) { id = id })
unfolding plain_game
made_is_session walls starts id len w count free =
    let players : length (map seat_at starts) ≡ 8 = length-map starts seat_at ∙ count in
    record {
      version = (omega arith, omega arith);
      id = len;
      grid = drawn_grid walls w;
      speed = (omega arith, omega arith);
      reach = omega arith;
      blast = omega arith;
      start_charge = omega arith;
      cap = omega arith;
      cost = omega arith;
      turns = (omega arith, omega arith);
      ahead = (omega arith, omega arith);
      players = (omega (arith, players), omega (arith, players));
      turns_of_all = omega (arith, players);
      seats = (each_map IsSeat seat_at starts).1 (each_any (λ c. IsSeat (seat_at c)) starts (λ c. record { speed = (omega arith, omega arith); reach = omega arith }));
      starts = (each_map (λ s. is_open (made_ground walls) s.start ≡ true) seat_at starts).1 (each_kept (IsStart walls) (λ c. is_open (made_ground walls) c ≡ true) starts (start_open walls) free);
      of_version_1 = λ first. record {
        width = omega arith;
        height = omega arith;
        turns = omega arith;
        ahead = refl;
        players = omega (arith, players);
        seats = (each_map (GoesByTheRules made_rules) seat_at starts).1 (each_any (λ c. GoesByTheRules made_rules (seat_at c)) starts (λ c. record { speed = refl; reach = refl }));
      };
    }

-- it is read from the text that was written before it had an id
made_reads : (walls starts : List Cell) → AreDrawn CELLS walls → length starts ≡ PLAYERS → EachIs (IsStart walls) starts → IsReadFrom (with_id (plain_game walls starts)) (session_text (plain_game walls starts))
unfolding plain_game session_text
made_reads walls starts w count free = record {
  session = made_is_session walls starts (sha256 (session_text (plain_game walls starts))) (length-sha256 (session_text (plain_game walls starts))) w count free;
  text_is = refl;
  id_is = refl;
}

-- what was drawn, and the session of the number by it
pub record IsDrawnBy (number : ℕ) (walls starts : List Cell) : Type 0 where
  pub count : length starts ≡ PLAYERS
  pub made : with_id (plain_game walls starts) ≡ made_session number
  pub reads : IsReadFrom (with_id (plain_game walls starts)) (session_text (plain_game walls starts))

pub drawn_all : (number : ℕ) → IsDrawnBy number (walls_of CELLS (generator_of number)).0 (starts_of (walls_of CELLS (generator_of number)).0 PLAYERS (walls_of CELLS (generator_of number)).1).0
unfolding made_session
drawn_all number =
    let walls = walls_of CELLS (generator_of number) in
    let are = walls_drawn CELLS (generator_of number) in
    let free = starts_free walls.0 PLAYERS walls.1 are.first in
    record { count = free.0; made = refl; reads = made_reads walls.0 (starts_of walls.0 PLAYERS walls.1).0 are free.0 free.1 }

drawn : (number : ℕ) → (w s : List Cell × Lcg) → w ≡ walls_of CELLS (generator_of number) → s ≡ starts_of w.0 PLAYERS w.1 → IsDrawnBy number w.0 s.0
drawn number w s e f =
    let P : List Cell × Lcg → Type 0 = λ x. IsDrawnBy number w.0 x.0 in
    let Q : List Cell × Lcg → Type 0 = λ x. IsDrawnBy number x.0 (starts_of x.0 PLAYERS x.1).0 in
    subst P (sym f) (subst Q (sym e) (drawn_all number))

pub drawn_by : (number : ℕ) (g h k : Lcg) (walls starts : List Cell) → g ≡ generator_of number → ◌≡◌ {A = List Cell × Lcg} (walls, h) (walls_of CELLS g) → ◌≡◌ {A = List Cell × Lcg} (starts, k) (starts_of walls PLAYERS h) → IsDrawnBy number walls starts
drawn_by number g h k walls starts begun e f = drawn number (walls, h) (starts, k) (e ∙ ap (walls_of CELLS) begun) f
