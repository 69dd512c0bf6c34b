-- Reached: what the calls of a dilation find and leave, by its fields.
use Rattle.std.proofs.Common.{◌≡◌, ℕ, ◌+◌, ◌<◌, List, [], ◌∷◌, ◌++◌, length-append, sym, ap, ◌∙◌, arith, inl, inr, get_or, subst, length, refl}
use Rattle.std.proofs.lemmas.Bool.{cases_eq, cases_lt}
use Rattle.std.proofs.lemmas.List.{length-map, length-set}
use Rattle.std.specs.Prelude.{IsTrue, map, slice_set}
use Rattle.plain_lemmas.proofs.Each.{each_set, each_map}
use Rattle.definitions.specs.declared.world.Cell.{Cell}
use Rattle.definitions.specs.declared.world.Seat.{Seat}
use Rattle.definitions.specs.Lists.{item_or}
use Rattle.definitions.specs.World.{Game, no_seat, seat_of, players_of, is_open}
use Rattle.definitions.specs.Walk.{reach_of}
use Rattle.definitions.proofs.Items.{map_item}
use Rattle.grid_world.specs.Sessions.{IsSession}
use Rattle.cell_set.specs.Regions.{Region}
use Rattle.dilation.specs.declared.growth.Kept.{Kept}
use Rattle.dilation.specs.Dilated.{Dilated, starts_of, cell_of, kept_of, none_kept, kept_set, turns_of}
use Rattle.dilation.specs.Following.{IsKept, AreKept, IsDilated, IsDilationOf, AreFresh, no_kept}
use Rattle.dilation.proofs.Seats.{first_starts, first_length, start_more, item_read}
use Rattle.dilation.proofs.Items.{map_set, map_more, item_before, item_last, item_set, item_set_other}

-- the set that was read at a place, by the cell that the list has
pub kept_here : (game : Game) (cells : List Cell) (kept : List Kept) (q : ℕ) (k : Kept) → IsDilated game cells kept → q < players_of game → k ≡ get_or kept q k → IsKept game q (cell_of cells q) k
kept_here game cells kept q k facts lt at_kept =
    let of_kept : Kept → Type 0 = λ n. IsKept game q (cell_of cells q) n in
    subst of_kept (sym (item_read kept q k no_kept (omega (arith, facts.one_each)) at_kept)) (facts.each_kept q (omega (arith, facts.seen.one_each)))

-- the same, by the cell that was read at the same place
pub kept_at : (game : Game) (cells : List Cell) (kept : List Kept) (i q : ℕ) (cell : Cell) (k : Kept) → IsDilated game cells kept → i ≡ q → q < players_of game →
    cell ≡ get_or cells i cell → k ≡ get_or kept i k → IsKept game q cell k
kept_at game cells kept i q cell k facts is lt at_cells at_kept =
    let of_cell : Cell → Type 0 = λ c. IsKept game q c k in
    subst of_cell (sym (item_read cells q cell no_seat.start (omega (arith, facts.seen.one_each)) (at_cells ∙ ap (λ n. get_or cells n cell) is)))
    (kept_here game cells kept q k facts lt (at_kept ∙ ap (λ n. get_or kept n k) is))

-- where one set is another one that fits its place, all fit
kept_set-each : (game : Game) (cells : List Cell) (kept : List Kept) (q : ℕ) (new : Kept) → length kept ≡ length cells → AreKept game cells kept → IsKept game q (cell_of cells q) new →
    AreKept game cells (slice_set kept q new)
kept_set-each game cells kept q new same each is p lt =
    let P : ℕ → Type 0 = λ n. IsKept game n (cell_of cells n) (item_or (slice_set kept q new) n no_kept) in
    let of_kept : Kept → Type 0 = λ n. IsKept game p (cell_of cells p) n in
    elim (cases_eq p q) [
      | inl here ↦
          let of_new : Kept → Type 0 = λ n. IsKept game q (cell_of cells q) n in
          subst P (sym here) (subst of_new (sym (item_set kept q new no_kept (omega (arith, here)))) is)
      | inr other ↦ subst of_kept (sym (item_set_other kept q p new no_kept other)) (each p lt)
    ]

-- the same, where the cell is another one too
seen_set-each : (game : Game) (cells : List Cell) (kept : List Kept) (q : ℕ) (cell : Cell) (new : Kept) → length kept ≡ length cells → AreKept game cells kept → IsKept game q cell new →
    AreKept game (slice_set cells q cell) (slice_set kept q new)
seen_set-each game cells kept q cell new same each is p lt =
    let at : ℕ → Cell → Kept → Type 0 = λ n c k. IsKept game n c k in
    let within : p < length cells = omega (arith, length-set cells q cell) in
    elim (cases_eq p q) [
      | inl here ↦
          let short : q < length cells = omega (arith, here) in
          let P : ℕ → Type 0 = λ n. at n (cell_of (slice_set cells q cell) n) (item_or (slice_set kept q new) n no_kept) in
          subst P (sym here)
          (subst (λ (k : Kept). at q (cell_of (slice_set cells q cell) q) k) (sym (item_set kept q new no_kept (omega arith)))
          (subst (λ (c : Cell). at q c new) (sym (item_set cells q cell no_seat.start short)) is))
      | inr other ↦
          subst (λ (k : Kept). at p (cell_of (slice_set cells q cell) p) k) (sym (item_set_other kept q p new no_kept other))
          (subst (λ (c : Cell). at p c (item_or kept p no_kept)) (sym (item_set_other cells q p cell no_seat.start other)) (each p within))
    ]

-- a player's set is another one of the same cell
pub dilated_grown : (game : Game) (cells : List Cell) (kept : List Kept) (i q : ℕ) (cell : Cell) (new : Kept) → IsDilated game cells kept → i ≡ q → q < players_of game →
    cell ≡ get_or cells i cell → IsKept game q cell new → IsDilated game cells (slice_set kept i new)
dilated_grown game cells kept i q cell new facts is lt at_cells fits =
    let of_cell : Cell → Type 0 = λ c. IsKept game q c new in
    let P : ℕ → Type 0 = λ n. IsDilated game cells (slice_set kept n new) in
    subst P (sym is) (record {
      seen = facts.seen;
      one_each = length-set kept q new ∙ facts.one_each;
      each_kept = kept_set-each game cells kept q new (facts.one_each ∙ sym facts.seen.one_each) facts.each_kept
          (subst of_cell (item_read cells q cell no_seat.start (omega (arith, facts.seen.one_each)) (at_cells ∙ ap (λ n. get_or cells n cell) is)) fits);
    })

-- a player was seen
pub dilated_seen : (game : Game) (cells : List Cell) (kept : List Kept) (i q : ℕ) (cell : Cell) (new : Kept) → IsDilated game cells kept → i ≡ q → IsTrue (is_open game.grid cell) →
    IsKept game q cell new → IsDilated game (slice_set cells i cell) (slice_set kept i new)
dilated_seen game cells kept i q cell new facts is opens fits =
    let P : ℕ → Type 0 = λ n. IsDilated game (slice_set cells n cell) (slice_set kept n new) in
    subst P (sym is) (record {
      seen = record {
        session = facts.seen.session;
        one_each = length-set cells q cell ∙ facts.seen.one_each;
        each_open = each_set (λ c. IsTrue (is_open game.grid c)) cells q cell facts.seen.each_open opens;
      };
      one_each = length-set kept q new ∙ facts.one_each;
      each_kept = seen_set-each game cells kept q cell new (facts.one_each ∙ sym facts.seen.one_each) facts.each_kept fits;
    })

-- what contracts see of a dilation with these fields
abbrev pub seen_as : List Cell → List Kept → Dilated
seen_as cells kept = record { cells = cells; kept = kept }

turns_set : (kept : List Kept) (i q n : ℕ) (new : Kept) → i ≡ q → new.turns ≡ n → turns_of (slice_set kept i new) ≡ slice_set (turns_of kept) q n
turns_set kept i q n new is turns =
    map_set (λ k. k.turns) kept i new ∙ ap (λ m. slice_set (turns_of kept) i m) turns ∙ ap (λ m. slice_set (turns_of kept) m n) is

-- the session is the one that it was made for
pub dilated_inside : (game : Game) (cells : List Cell) (kept : List Kept) (s : Dilated) → seen_as cells kept ≡ s → IsDilationOf game s → IsDilated game cells kept
dilated_inside game cells kept s seen is = subst (λ (v : Dilated). IsDilationOf game v) (sym seen) is

pub turns_grown : (cells : List Cell) (kept : List Kept) (s : Dilated) (i q n : ℕ) (new : Kept) → seen_as cells kept ≡ s → i ≡ q → new.turns ≡ n → turns_of (slice_set kept i new) ≡ slice_set (turns_of s.kept) q n
turns_grown cells kept s i q n new seen is turns = turns_set kept i q n new is turns ∙ ap (λ (v : Dilated). slice_set (turns_of v.kept) q n) seen

pub cells_seen : (cells : List Cell) (kept : List Kept) (s : Dilated) (i q : ℕ) (cell : Cell) → seen_as cells kept ≡ s → i ≡ q → slice_set cells i cell ≡ slice_set s.cells q cell
cells_seen cells kept s i q cell seen is = ap (λ n. slice_set cells n cell) is ∙ ap (λ (v : Dilated). slice_set v.cells q cell) seen

-- the turns that were written are those that are read
pub turns_read : (game : Game) (cells : List Cell) (kept : List Kept) (i q n : ℕ) (new : Kept) → IsDilated game cells kept → i ≡ q → q < players_of game → new.turns ≡ n →
    kept_of (turns_of (slice_set kept i new)) q ≡ n
turns_read game cells kept i q n new facts is lt turns =
    ap (λ ks. kept_of ks q) (turns_set kept i q n new is turns) ∙ item_set (turns_of kept) q n 0 (omega (arith, facts.one_each, length-map kept (λ (k : Kept). k.turns)))

-- the set that was read has the cells that the player can be at
pub kept_set_is : (game : Game) (cells : List Cell) (kept : List Kept) (s : Dilated) (i q : ℕ) (k : Kept) → IsDilated game cells kept → seen_as cells kept ≡ s → i ≡ q → q < players_of game →
    k ≡ get_or kept i k → k.reached ≡ kept_set game s q
kept_set_is game cells kept s i q k facts seen is lt at =
    let here : k ≡ get_or kept q k = at ∙ ap (λ n. get_or kept n k) is in
    let known = kept_here game cells kept q k facts lt here in
    let turns : k.turns ≡ kept_of (turns_of kept) q
    = ap (λ (n : Kept). n.turns) (item_read kept q k k (omega (arith, facts.one_each)) here) ∙ sym (map_item (λ (n : Kept). n.turns) kept q k 0 (omega (arith, facts.one_each))) in
    let sized : ℕ → ℕ → List Cell → Region = λ w h cs. record { width = w; height = h; cells = cs } in
    ap (λ w. sized w k.reached.height k.reached.cells) known.followed.size.width
    ∙ ap (λ h. sized game.grid.width h k.reached.cells) known.followed.size.height
    ∙ ap (sized game.grid.width game.grid.height)
    (known.followed.cells ∙ ap (λ n. reach_of game q n (cell_of cells q ∷ [])) turns)
    ∙ ap (λ (v : Dilated). kept_set game v q) seen

-- one cell and its set more
kept_more : (game : Game) (n : ℕ) (cells : List Cell) (kept : List Kept) (cell : Cell) (k : Kept) → n ≡ length cells → length kept ≡ length cells → AreKept game cells kept → IsKept game n cell k →
    AreKept game (cells ++ cell ∷ []) (kept ++ k ∷ [])
kept_more game n cells kept cell k here same each is p lt =
    let at : ℕ → Cell → Kept → Type 0 = λ m c x. IsKept game m c x in
    let all = length-append cells (cell ∷ []) in
    elim (cases_lt p n) [
      | inl before ↦
          subst (λ (x : Kept). at p (cell_of (cells ++ cell ∷ []) p) x) (sym (item_before kept k p no_kept (omega arith)))
          (subst (λ (c : Cell). at p c (item_or kept p no_kept)) (sym (item_before cells cell p no_seat.start (omega arith))) (each p (omega arith)))
      | inr past ↦
          let last : p ≡ n = omega arith in
          subst (λ (x : Kept). at p (cell_of (cells ++ cell ∷ []) p) x) (sym (item_last kept k p no_kept (omega arith)))
          (subst (λ (c : Cell). at p c k) (sym (item_last cells cell p no_seat.start (omega arith))) (subst (λ (m : ℕ). at m cell k) (sym last) is))
    ]

-- one player more stands at its start
pub fresh_more : (game : Game) (n : ℕ) (kept after : List Kept) (k : Kept) → n < players_of game → AreFresh game (first_starts game n) kept →
    IsKept game n (seat_of game n).start k → k.turns ≡ 0 → after ≡ kept ++ k ∷ [] → AreFresh game (first_starts game (n + 1)) after
fresh_more game n kept after k lt fresh new none more =
    let start = (seat_of game n).start in
    let cells = first_starts game n ++ start ∷ [] in
    let all : cells ≡ first_starts game (n + 1) = start_more game n start (first_starts game n) cells lt refl refl refl in
    let P : List Cell → Type 0 = λ cs. AreFresh game cs after in
    let Q : List Kept → Type 0 = λ ks. AreFresh game cells ks in
    subst P all (subst Q (sym more) (record {
      one_each = length-append kept (k ∷ []) ∙ ap (λ m. m + 1) fresh.one_each ∙ sym (length-append (first_starts game n) (start ∷ []));
      each_kept = kept_more game n (first_starts game n) kept start k (sym (first_length game n (omega arith))) fresh.one_each fresh.each_kept new;
      turns = map_more (λ (x : Kept). x.turns) kept k ∙ ap (λ (xs : List ℕ). xs ++ k.turns ∷ []) fresh.turns ∙ ap (λ m. none_kept (first_starts game n) ++ m ∷ []) none
          ∙ sym (map_more (λ _. 0) (first_starts game n) start);
    }))

-- all stand at their starts
pub dilated_starts : (game : Game) (cells : List Cell) (kept : List Kept) → IsSession game → cells ≡ starts_of game → AreFresh game (starts_of game) kept → IsDilated game cells kept
dilated_starts game cells kept facts starts fresh =
    subst (λ (cs : List Cell). IsDilated game cs kept) (sym starts) (record {
      seen = record { session = facts; one_each = length-map game.seats (λ (s : Seat). s.start); each_open = (each_map (λ c. IsTrue (is_open game.grid c)) (λ (s : Seat). s.start) game.seats).1 facts.starts };
      one_each = fresh.one_each ∙ length-map game.seats (λ (s : Seat). s.start);
      each_kept = fresh.each_kept;
    })
