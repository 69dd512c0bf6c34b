-- The rules of hits at work: turns worked out by hand.
use Rattle.std.proofs.Common.{Bool, List, None, Some, [], map, refl, true, ℕ, ◌∷◌, ◌≡◌}
use Rattle.std.specs.List.{list_all, range_with_len}
use Rattle.definitions.specs.declared.world.Cell.{Cell}
use Rattle.definitions.specs.declared.world.Move.{Move}
use Rattle.definitions.specs.declared.world.Seat.{Seat}
use Rattle.definitions.specs.World.{Game, cells_in, players_of, row_of}
use Rattle.definitions.specs.Walk.{stepped, walked}
use Rattle.definitions.specs.Moves.{are_legal_from, is_legal, start_track}
use Rattle.playout.specs.declared.standing.Standing.{Standing}
use Rattle.playout.specs.Hits.{own_score, own_score_among, score_among}
use Rattle.playout.specs.Lockstep.{lockstep, moves_of}

abbrev at : ℕ → ℕ → Cell
at x y = record { x = x; y = y }

-- a player that starts in this cell, with this speed and reach
abbrev seat : (x y speed reach : ℕ) → Seat
seat x y speed reach = record { start = at x y; speed = speed; reach = reach }

-- a square of so many cells a side without walls, with blast 1, and with strikes that cost 1
abbrev square : (side : ℕ) → List Seat → Game
square side seats = record {
  version = 2;
  id = [];
  grid = record { width = side; height = side; walls = [] };
  rules = record { speed = 1; reach = 2; blast = 1; start_charge = 1; cap = 2; cost = 1 };
  turns = 2;
  ahead = 1;
  seats = seats;
}

abbrev goes : ℕ → ℕ → Move
goes x y = record { to = at x y; strike = None }

abbrev goes_and_strikes : (x y c d : ℕ) → Move
goes_and_strikes x y c d = record { to = at x y; strike = Some (at c d) }

-- each player stands and has scored so after the first n turns
abbrev standings_after : Game → List (List Move) → ℕ → List Standing
standings_after game moves n = map (lockstep game moves n) (range_with_len 0 (players_of game))

abbrev stands : (x y charge given taken : ℕ) → Standing
stands x y charge given taken = record { track = record { at = at x y; charge = charge }; score = record { given = given; taken = taken } }

-- the moves are legal
abbrev all_legal : Game → List (List Move) → Bool
all_legal game moves = list_all (λ q. are_legal_from game q (start_track game q) (moves_of moves q)) (range_with_len 0 (players_of game))

-- ---- one strike, at a cell that one player comes near to

abbrev three : Game
three = square 6 (seat 1 1 1 2 ∷ seat 4 1 1 2 ∷ seat 3 3 1 2 ∷ [])

abbrev one_strike : List (List Move)
one_strike = (goes_and_strikes 1 1 3 1 ∷ []) ∷ (goes 4 2 ∷ []) ∷ (goes 3 3 ∷ []) ∷ []

one_strike_is_legal : all_legal three one_strike ≡ true
unfolding is_legal cells_in row_of walked stepped
one_strike_is_legal = refl

-- the second player is hit one cell from the cell struck, and the third, two cells from it, isn't
one_is_hit : standings_after three one_strike 1 ≡ stands 1 1 0 1 0 ∷ stands 4 2 2 0 1 ∷ stands 3 3 2 0 0 ∷ []
unfolding lockstep score_among
one_is_hit = refl

-- ---- strikes by several players, over two turns

-- the second player runs, and the third one strikes farther than the others
abbrev runner_and_archer : Game
runner_and_archer = square 8 (seat 1 1 1 2 ∷ seat 3 1 2 1 ∷ seat 1 3 1 3 ∷ [])

-- First the first player strikes where the second one stood, and hits it where it comes to; the second one strikes beside itself,
-- and hits both others, and not itself. Then the second one runs, and the third one strikes beside the cell that it comes to.
abbrev two_turns : List (List Move)
two_turns =
    (goes_and_strikes 1 1 3 1 ∷ goes 0 0 ∷ []) ∷
    (goes_and_strikes 2 2 1 2 ∷ goes 4 4 ∷ []) ∷
    (goes 1 3 ∷ goes_and_strikes 1 3 4 3 ∷ []) ∷
    []

two_turns_are_legal : all_legal runner_and_archer two_turns ≡ true
unfolding is_legal cells_in row_of walked stepped
two_turns_are_legal = refl

all_are_hit : standings_after runner_and_archer two_turns 1 ≡ stands 1 1 0 1 1 ∷ stands 2 2 0 2 1 ∷ stands 1 3 2 0 1 ∷ []
unfolding lockstep score_among
all_are_hit = refl

one_is_hit_again : standings_after runner_and_archer two_turns 2 ≡ stands 0 0 1 1 1 ∷ stands 4 4 1 2 2 ∷ stands 1 3 1 1 1 ∷ []
unfolding lockstep score_among
one_is_hit_again = refl

-- the second player's own first turn, the third player's move being unknown: one hit given fewer
own_turn_counts : own_score runner_and_archer 1 (goes_and_strikes 2 2 1 2) (Some (goes_and_strikes 1 1 3 1) ∷ None ∷ None ∷ []) ≡ record { given = 1; taken = 1 }
unfolding own_score_among
own_turn_counts = refl
