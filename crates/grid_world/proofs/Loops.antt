-- Reading seats and walls one after the other, as a loop does.
use Rattle.std.proofs.Common.{◌≡◌, ℕ, suc, ◌-◌, ◌+◌, ◌≤◌, ◌<◌, List, [], ◌∷◌, ◌++◌, Result, Ok, Err, refl, sym, ap, subst, ◌∙◌, add-one, append_assoc, arith, inl, inr}
use Rattle.std.specs.Prelude.{◌*◌, Option, Some, None, true, false, nat_lt, ◌==◌, ◌&&◌, codes}
use Rattle.std.proofs.lemmas.Bool.{and_parts, or_cases, ltb-true, eqb-true}
use Rattle.std.proofs.lemmas.List.{append-nil}
use Rattle.definitions.specs.declared.sessions.SessionRule.TheVariants.{S1}
use Rattle.definitions.specs.declared.limits.TheConstants.{WIDEST_SIDE}
use Rattle.definitions.specs.declared.world.Cell.{Cell}
use Rattle.definitions.specs.declared.world.Seat.{Seat}
use Rattle.definitions.specs.World.{Ground}
use Rattle.grid_world.specs.declared.fault.SessionFault.{SessionFault}
use Rattle.grid_world.specs.declared.fault.SessionFault.TheVariants.{At, Memory}
use Rattle.text_lines.specs.Lines.{is_bare}
use Rattle.text_lines.specs.Reading.{◌>>=◌}
use Rattle.text_lines.specs.Answers.{Fails}
use Rattle.text_lines.proofs.Steps.{with_front, with_front-more}
use Rattle.grid_world.specs.Answers.{is_memory}
use Rattle.grid_world.specs.Reading.{Head, seat_at, seats_at, is_after, wall_at, walls_at}
use Rattle.grid_world.proofs.Steps.{wall_at_ok}

-- the seats that were read before, and those that are still read
abbrev pub with_seats : List Seat → Result (List Seat × List (List ℕ)) SessionFault → Result (List Seat × List (List ℕ)) SessionFault
with_seats front read = read >>= λ x. Ok (front ++ x.0, x.1)

regroup : (front : List Seat) (s : Seat) (read : Result (List Seat × List (List ℕ)) SessionFault) → with_seats front (read >>= λ x. Ok (s ∷ x.0, x.1)) ≡ with_seats (front ++ s ∷ []) read
regroup front s (Ok x) = ap (λ (seats : List Seat). Ok (seats, x.1)) (simp append_assoc)
regroup front s (Err f) = refl

pub seats_more : (head : Head) (front : List Seat) (k q : ℕ) (lines : List (List ℕ)) (s : Seat) (after : List (List ℕ)) (total : Result (List Seat × List (List ℕ)) SessionFault)
    → q < k → seat_at head q lines ≡ Ok (s, after)
    → with_seats front (seats_at head (k - q) q lines) ≡ total → with_seats (front ++ s ∷ []) (seats_at head (k - (q + 1)) (q + 1) after) ≡ total
unfolding seats_at
seats_more head front k q lines s after total lt h so_far =
    let m : k - q ≡ suc (k - (q + 1)) = omega arith in
    let one : with_seats front (seats_at head (k - q) q lines) ≡ with_seats (front ++ s ∷ []) (seats_at head (k - (q + 1)) (suc q) after) = rw (m, h) (regroup front s (seats_at head (k - (q + 1)) (suc q) after)) in
    subst (λ (r : ℕ). with_seats (front ++ s ∷ []) (seats_at head (k - (q + 1)) r after) ≡ total) (sym (add-one q)) (sym one ∙ so_far)

pub seats_fail : (head : Head) (e : SessionFault) (front : List Seat) (k q : ℕ) (lines : List (List ℕ)) (total : Result (List Seat × List (List ℕ)) SessionFault)
    → q < k → Fails is_memory e (seat_at head q lines) → with_seats front (seats_at head (k - q) q lines) ≡ total → Fails is_memory e total
unfolding seats_at
seats_fail head Memory front k q lines total lt h so_far = tt
seats_fail head (At n rule) front k q lines total lt h so_far =
    let m : k - q ≡ suc (k - (q + 1)) = omega arith in
    let one : with_seats front (seats_at head (k - q) q lines) ≡ Err (At n rule) = rw (m, h) refl in
    sym so_far ∙ one

pub seats_all : (head : Head) (front : List Seat) (k q : ℕ) (lines : List (List ℕ)) (total : Result (List Seat × List (List ℕ)) SessionFault)
    → k ≤ q → with_seats front (seats_at head (k - q) q lines) ≡ total → total ≡ Ok (front, lines)
unfolding seats_at
seats_all head front k q lines total le so_far =
    let m : k - q ≡ 0 = omega arith in
    let one : with_seats front (seats_at head (k - q) q lines) ≡ Ok (front, lines) = rw m (ap (λ (seats : List Seat). Ok (seats, lines)) (append-nil front)) in
    sym so_far ∙ one

-- how many cells stand in rows of the widest grid up to this one
abbrev pub cells_up_to : Option Cell → ℕ
cells_up_to None = 0
cells_up_to (Some c) = c.y * WIDEST_SIDE + (c.x + 1)

abbrev pub IsSmall : Option Cell → Type 0
IsSmall None = Unit {0}
IsSmall (Some c) = (c.x < WIDEST_SIDE) × (c.y < WIDEST_SIDE)

-- a wall's line is as far down as the wall may be
next_line : (before : Option Cell) (c : Cell) (first n : ℕ) → IsSmall before → c.x < WIDEST_SIDE → c.y < WIDEST_SIDE → is_after before c ≡ true → n ≤ first + cells_up_to before → n + 1 ≤ first + cells_up_to (Some c)
next_line None c first n small x y after few = omega arith
next_line (Some d) c first n small x y after few =
    elim (or_cases (nat_lt d.y c.y) ((d.y == c.y) && nat_lt d.x c.x) after) [
      | inl above ↦ let lt : d.y < c.y = ltb-true d.y c.y above in omega (arith, small.0, small.1)
      | inr same ↦
          let both = and_parts (d.y == c.y) (nat_lt d.x c.x) same in
          let row : d.y ≡ c.y = eqb-true d.y c.y both.0 in
          let lt : d.x < c.x = ltb-true d.x c.x both.1 in
          omega (arith, small.0, small.1)
    ]

-- what holds in front of each line that may say a wall
pub record AtWall (grid : Ground) (starts : List Cell) (front : List Cell) (before : Option Cell) (first n : ℕ) (lines : List (List ℕ)) (total : Result (List Cell) SessionFault) : Type 0 where
  pub read : with_front front (walls_at grid starts lines before n) ≡ total
  pub small : IsSmall before
  -- lines are as few as cells
  pub few : n ≤ first + cells_up_to before

pub walls_more : (grid : Ground) (starts front : List Cell) (before : Option Cell) (first n : ℕ) (line : List ℕ) (lines after : List (List ℕ)) (c : Cell) (total : Result (List Cell) SessionFault)
    → grid.width ≤ WIDEST_SIDE → grid.height ≤ WIDEST_SIDE → lines ≡ line ∷ after → is_bare (codes "end") line ≡ false → wall_at grid starts before n line ≡ Ok c
    → AtWall grid starts front before first n lines total → AtWall grid starts (front ++ c ∷ []) (Some c) first (n + 1) after total
unfolding walls_at
walls_more grid starts front before first n line lines after c total wide high split bare read at =
    let wall = wall_at_ok grid starts before n line c read in
    let one : with_front front (walls_at grid starts lines before n) ≡ with_front (front ++ c ∷ []) (walls_at grid starts after (Some c) (suc n)) =
    rw (split, bare, read) (with_front-more front c (walls_at grid starts after (Some c) (suc n))) in
    let within = and_parts (nat_lt c.x grid.width) (nat_lt c.y grid.height) wall.inside in
    let left : c.x < grid.width = ltb-true c.x grid.width within.0 in
    let above : c.y < grid.height = ltb-true c.y grid.height within.1 in
    record {
      read = subst (λ (m : ℕ). with_front (front ++ c ∷ []) (walls_at grid starts after (Some c) m) ≡ total) (sym (add-one n)) (sym one ∙ at.read);
      small = (omega arith, omega arith);
      few = next_line before c first n at.small (omega arith) (omega arith) wall.after at.few;
    }

pub walls_fail : (grid : Ground) (e : SessionFault) (starts front : List Cell) (before : Option Cell) (first n : ℕ) (line : List ℕ) (lines after : List (List ℕ)) (total : Result (List Cell) SessionFault)
    → lines ≡ line ∷ after → is_bare (codes "end") line ≡ false → Fails is_memory e (wall_at grid starts before n line)
    → AtWall grid starts front before first n lines total → Fails is_memory e total
unfolding walls_at
walls_fail grid Memory starts front before first n line lines after total split bare h at = tt
walls_fail grid (At m rule) starts front before first n line lines after total split bare h at =
    let one : with_front front (walls_at grid starts lines before n) ≡ Err (At m rule) = rw (split, bare, h) refl in
    sym at.read ∙ one

pub walls_end : (grid : Ground) (starts front : List Cell) (before : Option Cell) (first n : ℕ) (line : List ℕ) (lines : List (List ℕ)) (total : Result (List Cell) SessionFault)
    → lines ≡ line ∷ [] → is_bare (codes "end") line ≡ true → AtWall grid starts front before first n lines total → total ≡ Ok front
unfolding walls_at
walls_end grid starts front before first n line lines total split bare at =
    let one : with_front front (walls_at grid starts lines before n) ≡ Ok front = rw (split, bare) (ap (λ (cells : List Cell). Ok cells) (append-nil front)) in
    sym at.read ∙ one

pub walls_past : (grid : Ground) (starts front : List Cell) (before : Option Cell) (first n : ℕ) (line next : List ℕ) (lines after : List (List ℕ)) (total : Result (List Cell) SessionFault)
    → lines ≡ line ∷ next ∷ after → is_bare (codes "end") line ≡ true → AtWall grid starts front before first n lines total → total ≡ Err (At (n + 1) S1)
unfolding walls_at
walls_past grid starts front before first n line next lines after total split bare at =
    let one : with_front front (walls_at grid starts lines before n) ≡ Err (At (suc n) S1) = rw (split, bare) refl in
    rw add-one (sym at.read ∙ one)

pub walls_missing : (grid : Ground) (starts front : List Cell) (before : Option Cell) (first n : ℕ) (lines : List (List ℕ)) (total : Result (List Cell) SessionFault)
    → lines ≡ [] → AtWall grid starts front before first n lines total → total ≡ Err (At n S1)
unfolding walls_at
walls_missing grid starts front before first n lines total none at =
    let one : with_front front (walls_at grid starts lines before n) ≡ Err (At n S1) = rw none refl in
    sym at.read ∙ one
