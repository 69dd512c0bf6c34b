-- Tracks and legal lists of moves, over joined lists.
use Rattle.std.proofs.Common.{Bool, List, None, Some, [], arith, false, length, refl, subst, suc, sym, true, zero, zero-add, ℕ, ◌*◌, ◌++◌, ◌+◌, ◌∙◌, ◌∷◌, ◌≡◌}
use Rattle.std.specs.Prelude.{Option, if◌then◌else◌, is_none, min, nat_lt, not, slice_get, ◌&&◌}
use Rattle.std.proofs.lemmas.Bool.{and_from, and_parts, false≢true}
use Rattle.std.proofs.Math.Nat.{suc-add}
use Rattle.plain_lemmas.proofs.Tests.{of_chosen}
use Rattle.definitions.specs.declared.openings.Digest.{Digest}
use Rattle.definitions.specs.declared.world.Cell.{Cell}
use Rattle.definitions.specs.Moves.{are_legal_from, is_legal, next_track, start_track, strike_fault, track_after, track_from}
use Rattle.definitions.specs.declared.frames.TurnFrame.TheVariants.{Commit, Reveal}
use Rattle.definitions.specs.Held.{Known, first_opening, known_to, next_known, opened, with_commit, with_move, known}
use Rattle.definitions.specs.World.{Game, Ground, has_cell, is_inside, is_open, is_wall, seat_of}
use Rattle.definitions.specs.declared.frames.TurnFrame.{TurnFrame}
use Rattle.definitions.specs.Walk.{in_reach, is_step, walked}
use Rattle.definitions.specs.declared.world.Track.{Track}
use Rattle.definitions.specs.declared.world.Move.{Move}
use Rattle.definitions.specs.declared.world.MoveFault.{MoveFault}
use Rattle.definitions.proofs.Walks.{Walk-from, has-begun, has-stepped, walked_open}
use Rattle.definitions.proofs.Cells.{any-cell, any-from, cell_eq-same}
use Rattle.definitions.specs.Logs.{frames_of}
use Rattle.definitions.specs.declared.logs.Entry.{Entry}

pub track_from_append : (game : Game) (tr : Track) (xs ys : List Move) → track_from game tr (xs ++ ys) ≡ track_from game (track_from game tr xs) ys
track_from_append game tr [] ys = refl
track_from_append game tr (x ∷ xs) ys = track_from_append game (next_track game tr x) xs ys

pub are_legal_from_append : (game : Game) (q : ℕ) (tr : Track) (xs ys : List Move) →
    are_legal_from game q tr (xs ++ ys) ≡ (are_legal_from game q tr xs && are_legal_from game q (track_from game tr xs) ys)
are_legal_from_append game q tr [] ys = refl
are_legal_from_append game q tr (x ∷ xs) ys = let ih = are_legal_from_append game q (next_track game tr x) xs ys in grind arith

-- no cause stands of these four
no_cause : (a b c : Bool) (x y z : MoveFault) (o : Option MoveFault) →
    is_none (if not a then Some x else if b then Some y else if not c then Some z else o) ≡ true → (a ≡ true) × (b ≡ false) × (c ≡ true)
no_cause true false true x y z o h = (refl, refl, refl)
no_cause false b c x y z o h = absurd (false≢true h)
no_cause true true c x y z o h = absurd (false≢true h)
no_cause true false false x y z o h = absurd (false≢true h)

-- a legal move ends where a turn's walk leads
pub legal_in_reach : (game : Game) (q : ℕ) (track : Track) (m : Move) → is_legal game q track m ≡ true → in_reach game q track.at m.to ≡ true
unfolding is_legal
legal_in_reach game q track m h =
    (no_cause (is_inside game.grid m.to) (is_wall game.grid m.to) (in_reach game q track.at m.to) _ _ _ (strike_fault game q track m.to m.strike) h).2

-- a walk that goes on from where another ended
pub walked_walked : (grid : Ground) (m n : ℕ) (cells : List Cell) (b c : Cell) → has_cell (walked grid m cells) b ≡ true → has_cell (walked grid n (b ∷ [])) c ≡ true → has_cell (walked grid (n + m) cells) c ≡ true
unfolding walked
walked_walked grid m zero cells b c h k =
    let P : Cell → Type 0 = λ e. has_cell (walked grid m cells) e ≡ true in
    rw zero-add (subst P (Walk-from grid 0 b c k).0 h)
walked_walked grid m (suc n) cells b c h k =
    let found = any-cell (λ e. is_step grid e c) (walked grid n (b ∷ [])) (sym (has-stepped grid (walked grid n (b ∷ [])) c) ∙ k) in
    let far = walked_walked grid m n cells b found.0 h found.1 in
    let P : ℕ → Type 0 = λ j. has_cell (walked grid j cells) c ≡ true in
    subst P (sym (suc-add n m)) (has-stepped grid (walked grid (n + m) cells) c ∙ any-from (λ e. is_step grid e c) (walked grid (n + m) cells) found.0 far found.2)

-- as long a walk as the moves that are legal from a track leads to where they end
pub legal_walked : (game : Game) (q : ℕ) (track : Track) (ms : List Move) → is_open game.grid track.at ≡ true →
    are_legal_from game q track ms ≡ true →
    has_cell (walked game.grid (length ms * (seat_of game q).speed) (track.at ∷ [])) (track_from game track ms).at ≡ true
unfolding walked
legal_walked game q track [] begins h =
    let here : has_cell (track.at ∷ []) track.at ≡ true = let s = cell_eq-same track.at in grind arith in
    let at_zero = has-begun game.grid (track.at ∷ []) track.at ∙ and_from _ _ begins here in
    let P : ℕ → Type 0 = λ j. has_cell (walked game.grid j (track.at ∷ [])) track.at ≡ true in
    let none : 0 ≡ 0 * (seat_of game q).speed = omega arith in
    subst P none at_zero
legal_walked game q track (m ∷ ms) begins h =
    let both = and_parts (is_legal game q track m) (are_legal_from game q (next_track game track m) ms) h in
    let one = legal_in_reach game q track m both.0 in
    let rest = legal_walked game q (next_track game track m) ms (walked_open game.grid _ _ _ one) both.1 in
    let P : ℕ → Type 0 = λ j. has_cell (walked game.grid j (track.at ∷ [])) (track_from game track (m ∷ ms)).at ≡ true in
    let e : length ms * (seat_of game q).speed + 1 * (seat_of game q).speed ≡ suc (length ms) * (seat_of game q).speed = omega arith in
    subst P e (walked_walked game.grid (1 * (seat_of game q).speed) (length ms * (seat_of game q).speed) (track.at ∷ []) m.to _ one rest)

-- the moves that are known of a player are legal
unfoldable pub AreKnownLegal : Game → ℕ → Known → Type 0
AreKnownLegal game q k = are_legal_from game q (start_track game q) k.moves ≡ true

first_opening_legal : (game : Game) (q : ℕ) (before : List Move) (d : Digest) (fs : List TurnFrame) (t : ℕ) (m : Move) →
    first_opening game q before d fs t ≡ Some m → is_legal game q (track_after game q before) m ≡ true
first_opening_legal game q before d [] t m h = cc
first_opening_legal game q before d (Commit p u e ∷ fs) t m h = first_opening_legal game q before d fs t m h
first_opening_legal game q before d (Reveal p u k n ∷ fs) t m h = let ih = first_opening_legal game q before d fs t m in grind arith

opened_legal : (game : Game) (q : ℕ) (before : List Move) (fs : List TurnFrame) (t : ℕ) (o : Option Digest) (m : Move) →
    opened game q before fs t o ≡ Some m → is_legal game q (track_after game q before) m ≡ true
opened_legal game q before fs t None m h = cc
opened_legal game q before fs t (Some d) m h = first_opening_legal game q before d fs t m h

with_move_legal : (game : Game) (q : ℕ) (k : Known) (o : Option Move) → AreKnownLegal game q k →
    ((m : Move) → o ≡ Some m → is_legal game q (track_after game q k.moves) m ≡ true) → AreKnownLegal game q (with_move k o)
unfolding AreKnownLegal
with_move_legal game q k None h f = h
with_move_legal game q k (Some m) h f =
    are_legal_from_append game q (start_track game q) k.moves (m ∷ []) ∙ and_from _ _ h (and_from _ _ (f m refl) refl)

with_commit_legal : (game : Game) (q : ℕ) (k : Known) (o : Option Digest) → AreKnownLegal game q k → AreKnownLegal game q (with_commit k o)
unfolding AreKnownLegal
with_commit_legal game q k None h = h
with_commit_legal game q k (Some d) h = h

next_known_legal : (game : Game) (q : ℕ) (fs : List TurnFrame) (k : Known) → AreKnownLegal game q k → AreKnownLegal game q (next_known game q fs k)
unfolding next_known
next_known_legal game q fs k h =
    of_chosen (AreKnownLegal game q) (nat_lt (length k.digests) (min (length k.moves + game.ahead) game.turns)) _ _ (with_commit_legal game q k _ h)
    (of_chosen (AreKnownLegal game q) (nat_lt (length k.moves) game.turns) _ _
    (with_move_legal game q k _ h (λ m e. opened_legal game q k.moves fs (length k.moves) (slice_get k.digests (length k.moves)) m e))
    h)

pub known_to_legal : (game : Game) (q : ℕ) (fs : List TurnFrame) (n : ℕ) → AreKnownLegal game q (known_to game q fs n)
unfolding known_to AreKnownLegal
known_to_legal game q fs zero = refl
known_to_legal game q fs (suc n) = next_known_legal game q fs _ (known_to_legal game q fs n)

-- legal moves lead from an open cell to an open cell
pub moves_open : (game : Game) (q : ℕ) (track : Track) (ms : List Move) → is_open game.grid track.at ≡ true → are_legal_from game q track ms ≡ true →
    is_open game.grid (track_from game track ms).at ≡ true
moves_open game q track [] o h = o
moves_open game q track (m ∷ ms) o h =
    let both = and_parts (is_legal game q track m) (are_legal_from game q (next_track game track m) ms) h in
    moves_open game q (next_track game track m) ms (walked_open game.grid _ _ _ (legal_in_reach game q track m both.0)) both.1

-- where a player stands after the moves that frames show of it is open, if its start is
pub known_to_open : (game : Game) (q n : ℕ) (fs : List TurnFrame) → is_open game.grid (seat_of game q).start ≡ true → is_open game.grid (track_after game q (known_to game q fs n).moves).at ≡ true
unfolding AreKnownLegal
known_to_open game q n fs start = moves_open game q (start_track game q) (known_to game q fs n).moves start (known_to_legal game q fs n)

pub known_open : (game : Game) (me q : ℕ) (h : List Entry) → is_open game.grid (seat_of game q).start ≡ true → is_open game.grid (track_after game q (known game me h q).moves).at ≡ true
unfolding known
known_open game me q h start = known_to_open game q (2 * game.turns) (frames_of me q h) start
