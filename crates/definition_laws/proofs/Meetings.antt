-- Meetings can end and can't begin as a log grows.
use Rattle.std.proofs.Common.{List, [], ap, arith, length, length-append, subst, suc, sym, true, zero, ℕ, ◌*◌, ◌++◌, ◌+◌, ◌-◌, ◌∙◌, ◌∷◌, ◌≡◌, ◌≤◌}
use Rattle.std.proofs.lemmas.List.{take-append-le}
use Rattle.std.specs.Prelude.{nat_le, take}
use Rattle.std.proofs.lemmas.Bool.{and_from, and_parts, le-leb, leb-true}
use Rattle.definitions.specs.Meets.{cell_before, cells_before, meets}
use Rattle.definitions.specs.Walk.{Walk, is_step, reach_of, walked}
use Rattle.definitions.specs.World.{Game, Ground, distance, has_cell, is_open, seat_of}
use Rattle.definitions.specs.Sphere.{have_common, sphere_of, spread}
use Rattle.definitions.specs.declared.world.Cell.{Cell}
use Rattle.definitions.specs.Moves.{are_legal_from, is_legal, start_track, track_after, track_from}
use Rattle.definitions.specs.declared.world.Track.{Track}
use Rattle.definitions.specs.declared.world.Move.{Move}
use Rattle.definitions.specs.Held.{Known, known, resolved_count}
use Rattle.definitions.specs.Logs.{frames_of}
use Rattle.definitions.specs.declared.logs.Entry.{Entry}
use Rattle.definitions.proofs.Walks.{Walk-from, has-begun, has-stepped}
use Rattle.definitions.proofs.Cells.{any-cell, any-from}
use Rattle.definitions.proofs.Nearness.{has_spread}
use Rattle.definition_laws.proofs.Tracks.{AreKnownLegal, are_legal_from_append, known_to_legal, legal_in_reach, legal_walked, track_from_append, walked_walked}
use Rattle.definition_laws.proofs.Grows.{known_grows}

-- each cell of the first list is in the second
abbrev pub IsWithin : List Cell → List Cell → Type 0
IsWithin xs ys = (c : Cell) → has_cell xs c ≡ true → has_cell ys c ≡ true

pub walked_within : (grid : Ground) (k : ℕ) (xs ys : List Cell) → IsWithin xs ys → IsWithin (walked grid k xs) (walked grid k ys)
unfolding walked
walked_within grid zero xs ys w c h =
    let both = and_parts _ _ (sym (has-begun grid xs c) ∙ h) in
    has-begun grid ys c ∙ and_from _ _ both.0 (w c both.1)
walked_within grid (suc k) xs ys w c h =
    let found = any-cell (λ b. is_step grid b c) (walked grid k xs) (sym (has-stepped grid (walked grid k xs) c) ∙ h) in
    has-stepped grid (walked grid k ys) c ∙
    any-from (λ b. is_step grid b c) (walked grid k ys) found.0 (walked_within grid k xs ys w found.0 found.1) found.2

spread_within : (grid : Ground) (r : ℕ) (xs ys : List Cell) → IsWithin xs ys → IsWithin (spread grid r xs) (spread grid r ys)
spread_within grid r xs ys w c h =
    let both = and_parts _ _ (sym (has_spread grid r xs c) ∙ h) in
    let found = any-cell (λ b. nat_le (distance b c) r) xs both.0 in
    has_spread grid r ys c ∙ and_from _ _ (any-from (λ b. nat_le (distance b c) r) ys found.0 (w found.0 found.1) found.2) both.1

-- a player on fewer cells can affect no more
pub sphere_of_within : (game : Game) (q : ℕ) (xs ys : List Cell) → IsWithin xs ys → IsWithin (sphere_of game q xs) (sphere_of game q ys)
sphere_of_within game q xs ys w = spread_within game.grid _ _ _ (walked_within game.grid _ xs ys w)

have_common_within : (zs xs ys : List Cell) → IsWithin xs ys → have_common zs xs ≡ true → have_common zs ys ≡ true
have_common_within zs xs ys w h =
    let found = any-cell (has_cell xs) zs h in
    any-from (has_cell ys) zs found.0 found.1 (w found.0 found.2)

walk_open : (grid : Ground) (k : ℕ) (a b : Cell) → Walk grid k a b → is_open grid a ≡ true
walk_open grid zero a b w = w.1
walk_open grid (suc k) a b w = walk_open grid k a w.0 w.1

-- where as many turns are left as the moves are fewer, longer lists of legal moves leave fewer cells to reach
pub reach_of_later : (game : Game) (q : ℕ) (track : Track) (ms : List Move) (n : ℕ) → are_legal_from game q track ms ≡ true →
    IsWithin (reach_of game q n ((track_from game track ms).at ∷ [])) (reach_of game q (n + length ms) (track.at ∷ []))
reach_of_later game q track [] n legal c h =
    let P : ℕ → Type 0 = λ j. has_cell (reach_of game q j (track.at ∷ [])) c ≡ true in
    let e : n ≡ n + 0 = omega arith in
    subst P e h
reach_of_later game q track (m ∷ ms) n legal c h =
    let first = legal_in_reach game q track m (and_parts (is_legal game q track m) _ legal).0 in
    let begins = walk_open game.grid _ track.at m.to (Walk-from game.grid (1 * (seat_of game q).speed) track.at m.to first) in
    let there = legal_walked game q track (m ∷ ms) begins legal in
    let P : ℕ → Type 0 = λ j. has_cell (walked game.grid j (track.at ∷ [])) c ≡ true in
    let e : n * (seat_of game q).speed + suc (length ms) * (seat_of game q).speed ≡ (n + suc (length ms)) * (seat_of game q).speed = omega arith in
    subst P e (walked_walked game.grid (suc (length ms) * (seat_of game q).speed) (n * (seat_of game q).speed) (track.at ∷ []) _ c there h)

-- the tail of the moves that are known is legal from where the rest ends
tail_legal : (game : Game) (q : ℕ) (l : Known) (xs ys : List Move) → AreKnownLegal game q l → l.moves ≡ xs ++ ys →
    are_legal_from game q (track_after game q xs) ys ≡ true
unfolding AreKnownLegal
tail_legal game q l xs ys h e =
    let P : List Move → Type 0 = λ zs. are_legal_from game q (start_track game q) zs ≡ true in
    (and_parts _ _ (sym (are_legal_from_append game q (start_track game q) xs ys) ∙ subst P e h)).1

-- the cells at which a player may be before a turn, by what is known of it
abbrev cells_by : Game → ℕ → ℕ → List Move → List Cell
cells_by game q t ms = reach_of game q (t - length ms) ((track_after game q ms).at ∷ [])

cells_by_later : (game : Game) (q t : ℕ) (xs ys : List Move) → length (xs ++ ys) ≤ t →
    are_legal_from game q (track_after game q xs) ys ≡ true → IsWithin (cells_by game q t (xs ++ ys)) (cells_by game q t xs)
cells_by_later game q t xs ys le legal c h =
    let both = length-append xs ys in
    let e : (t - length (xs ++ ys)) + length ys ≡ t - length xs = omega arith in
    let P : ℕ → Type 0 = λ j. has_cell (reach_of game q j ((track_after game q xs).at ∷ [])) c ≡ true in
    let Q : Track → Type 0 = λ track. has_cell (reach_of game q (t - length (xs ++ ys)) (track.at ∷ [])) c ≡ true in
    subst P e (reach_of_later game q (track_after game q xs) ys (t - length (xs ++ ys)) legal c (subst Q (track_from_append game (start_track game q) xs ys) h))

-- a meeting of the longer log is one of the shorter log
pub meets_before : (game : Game) (me q t : ℕ) (g h : List Entry) → t ≤ resolved_count game me g me →
    meets game me (g ++ h) q t ≡ true → meets game me g q t ≡ true
unfolding meets known
meets_before game me q t g h own_resolved m =
    let both = and_parts _ _ m in
    let ours = known_grows game me me g h in
    let theirs = known_grows game me q g h in
    let late : length (known game me (g ++ h) q).moves ≤ t = leb-true _ _ both.0 in
    let moves_are : (known game me (g ++ h) q).moves ≡ (known game me g q).moves ++ theirs.moves_after = theirs.moves_are in
    let longer : length ((known game me g q).moves ++ theirs.moves_after) ≤ t =
    (let L : List Move → Type 0 = λ zs. length zs ≤ t in subst L moves_are late) in
    let count = length-append (known game me g q).moves theirs.moves_after in
    let legal = tail_legal game q (known game me (g ++ h) q) (known game me g q).moves theirs.moves_after (known_to_legal game q (frames_of me q (g ++ h)) (2 * game.turns)) moves_are in
    let fewer = cells_by_later game q t (known game me g q).moves theirs.moves_after longer legal in
    let same : take t (known game me (g ++ h) me).moves ≡ take t (known game me g me).moves =
    ap (take t) ours.moves_are ∙ take-append-le t (known game me g me).moves ours.moves_after own_resolved in
    let A : List Move → Type 0 = λ zs. have_common (sphere_of game me ((track_after game me zs).at ∷ [])) (sphere_of game q (cells_before game me (g ++ h) q t)) ≡ true in
    let own : A (take t (known game me g me).moves) = subst A same both.1 in
    let B : List Move → Type 0 = λ zs. have_common (sphere_of game me (cell_before game me g me t ∷ [])) (sphere_of game q (cells_by game q t zs)) ≡ true in
    let met : B ((known game me g q).moves ++ theirs.moves_after) = subst B moves_are own in
    and_from _ _ (le-leb _ _ (omega arith))
    (have_common_within (sphere_of game me (cell_before game me g me t ∷ [])) _ _ (sphere_of_within game q _ _ fewer) met)
