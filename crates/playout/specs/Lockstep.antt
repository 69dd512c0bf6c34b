-- Lockstep: each player's track and score after turns that all players play.
use Rattle.std.specs.Prelude.{◌≡◌, ◌<◌, ℕ, zero, suc, List, [], map, length}
use Rattle.definitions.specs.declared.world.Move.{Move}
use Rattle.definitions.specs.Lists.{EachIs, item_or}
use Rattle.definitions.specs.World.{Game, players_of}
use Rattle.definitions.specs.Moves.{AreLegal, next_track, start_track}
use Rattle.playout.specs.declared.standing.Standing.{Standing}
use Rattle.playout.specs.Hits.{no_score, plus, move_of, turn_score}

-- the player's track and score before the first turn
abbrev pub at_start : Game → ℕ → Standing
at_start game q = record { track = start_track game q; score = no_score }

-- the same after a turn in which the players make these moves
abbrev pub standing_after : Game → List Move → ℕ → Standing → Standing
standing_after game moves q s = record { track = next_track game s.track (move_of moves q); score = plus s.score (turn_score game moves q) }

-- the player's own list of moves, of one list for each player in order
abbrev pub moves_of : List (List Move) → ℕ → List Move
moves_of moves q = item_or moves q []

-- the move of each player in turn t
abbrev pub turn_moves : List (List Move) → ℕ → List Move
turn_moves moves t = map (λ own. move_of own t) moves

-- the track and the score of player q after the first n turns of these lists, one list for each player in order
unfoldable pub lockstep : Game → List (List Move) → (n q : ℕ) → Standing
lockstep game moves zero q = at_start game q
lockstep game moves (suc n) q = standing_after game (turn_moves moves n) q (lockstep game moves n q)

-- one legal list of n moves for each player
pub record AreLegalMoves (game : Game) (moves : List (List Move)) (n : ℕ) : Type 0 where
  pub one_each : length moves ≡ players_of game
  pub each_long : EachIs (λ own. length own ≡ n) moves
  pub legal : (q : ℕ) → q < players_of game → AreLegal game q (moves_of moves q)
