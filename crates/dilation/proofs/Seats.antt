-- Seats: where the players start, one after another, and what holds of the cells at which they were last seen.
use Rattle.std.proofs.Common.{◌≡◌, ℕ, zero, suc, ◌+◌, ◌<◌, ◌≤◌, List, [], ◌∷◌, ◌++◌, length, take, refl, sym, ap, ◌∙◌, arith, get_or}
use Rattle.std.specs.Prelude.{map}
use Rattle.std.proofs.lemmas.List.{take_all}
use Rattle.definitions.specs.declared.world.Cell.{Cell}
use Rattle.definitions.specs.declared.world.Seat.{Seat}
use Rattle.definitions.specs.Lists.{item_or}
use Rattle.definitions.specs.World.{Game, no_seat, seat_of, players_of}
use Rattle.dilation.specs.Dilated.{starts_of}

-- the starts of the first n players
abbrev pub first_starts : Game → ℕ → List Cell
first_starts game n = map (λ s. s.start) (take n game.seats)

taken_length : (seats : List Seat) (n : ℕ) → n ≤ length seats → length (map (λ s. s.start) (take n seats)) ≡ n
taken_length seats zero le = refl
taken_length [] (suc n) le = absurd (omega arith)
taken_length (s ∷ seats) (suc n) le = ap suc (taken_length seats n (omega arith))

pub first_length : (game : Game) (n : ℕ) → n ≤ players_of game → length (first_starts game n) ≡ n
first_length game n le = taken_length game.seats n le

starts_more : (seats : List Seat) (n : ℕ) → n < length seats → map (λ s. s.start) (take n seats) ++ (item_or seats n no_seat).start ∷ [] ≡ map (λ s. s.start) (take (n + 1) seats)
starts_more [] n lt = absurd (omega arith)
starts_more (s ∷ seats) zero lt = refl
starts_more (s ∷ seats) (suc n) lt =
    let e : suc n + 1 ≡ suc (n + 1) = omega arith in
    ap (λ (cs : List Cell). s.start ∷ cs) (starts_more seats n (omega arith)) ∙ ap (λ k. map (λ (t : Seat). t.start) (take k (s ∷ seats))) (sym e)

-- the start of one player more
pub start_more : (game : Game) (n : ℕ) (start : Cell) (before after : List Cell) → n < players_of game → start ≡ (seat_of game n).start → before ≡ first_starts game n →
    after ≡ before ++ start ∷ [] → after ≡ first_starts game (n + 1)
start_more game n start before after lt is so_far more =
    more ∙ ap (λ (cs : List Cell). cs ++ start ∷ []) so_far ∙ ap (λ (c : Cell). first_starts game n ++ c ∷ []) is ∙ starts_more game.seats n lt

pub starts_all : (game : Game) (n : ℕ) → n ≡ players_of game → first_starts game n ≡ starts_of game
starts_all game n e = ap (first_starts game) e ∙ ap (map (λ (s : Seat). s.start)) (take_all (length game.seats) game.seats (omega arith))

-- an item as it is read
pub item_read : {X : Type 0} (xs : List X) (i : ℕ) (x d : X) → i < length xs → x ≡ get_or xs i x → x ≡ item_or xs i d
item_read [] i x d lt is = absurd (omega arith)
item_read (y ∷ ys) zero x d lt is = is
item_read (y ∷ ys) (suc i) x d lt is = item_read ys i x d (omega arith) is
