-- Least: the least reach of players, player by player, and that it is no player's more.
use Rattle.std.proofs.Common.{◌≡◌, ℕ, zero, suc, ◌+◌, ◌<◌, ◌≤◌, List, [], ◌∷◌, length, take, refl, ap, ◌∙◌, arith}
use Rattle.std.specs.Prelude.{min}
use Rattle.std.proofs.lemmas.List.{take_all}
use Rattle.definitions.specs.declared.world.Seat.{Seat}
use Rattle.definitions.specs.Lists.{item_or}
use Rattle.definitions.specs.World.{Game, no_seat, players_of, seat_of}
use Rattle.pilots.specs.Choices.{least_from, least_reach}

-- one player more
pub least_more : (r : ℕ) (seats : List Seat) (i : ℕ) → i < length seats → least_from r (take (i + 1) seats) ≡ min (least_from r (take i seats)) (item_or seats i no_seat).reach
least_more r [] i lt = absurd (omega arith)
least_more r (s ∷ seats) zero lt = refl
least_more r (s ∷ seats) (suc i) lt =
    let e : suc i + 1 ≡ suc (i + 1) = omega arith in
    ap (λ k. least_from r (take k (s ∷ seats))) e ∙ least_more (min r s.reach) seats i (omega arith)

-- all players
pub least_all : (r : ℕ) (seats : List Seat) (n : ℕ) → n ≡ length seats → least_from r (take n seats) ≡ least_from r seats
least_all r seats n e = ap (least_from r) (take_all n seats (omega arith))

-- it is no more than the number with which it begins
least_begun : (r : ℕ) (seats : List Seat) → least_from r seats ≤ r
least_begun r [] = omega arith
least_begun r (s ∷ seats) = let h = least_begun (min r s.reach) seats in omega arith

least_at : (r : ℕ) (seats : List Seat) (q : ℕ) → q < length seats → least_from r seats ≤ (item_or seats q no_seat).reach
least_at r [] q lt = absurd (omega arith)
least_at r (s ∷ seats) zero lt = let h = least_begun (min r s.reach) seats in omega arith
least_at r (s ∷ seats) (suc q) lt = least_at (min r s.reach) seats q (omega arith)

-- it is no player's more
pub least_within : (game : Game) (q : ℕ) → q < players_of game → least_reach game ≤ (seat_of game q).reach
unfolding least_reach
least_within game q lt = least_at (seat_of game 0).reach game.seats q lt
