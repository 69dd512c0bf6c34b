-- Scoring: what the settled turns of a log's owner count.
use Rattle.std.specs.Prelude.{◌≡◌, ℕ, zero, suc, ◌<◌, List, Option, map, take}
use Rattle.std.specs.List.{range_with_len}
use Rattle.definitions.specs.declared.world.Move.{Move}
use Rattle.definitions.specs.declared.logs.Entry.{Entry}
use Rattle.definitions.specs.World.{Game, players_of}
use Rattle.definitions.specs.Held.{known, resolved, resolved_count}
use Rattle.definitions.specs.Settled.{settled}
use Rattle.playout.specs.declared.hits.Score.{Score}
use Rattle.playout.specs.Hits.{no_score, plus, move_of, own_score}
use Rattle.playout.specs.Lockstep.{AreLegalMoves, lockstep, moves_of}

-- the moves by which the log resolves the turn, in order of player, where they are there
abbrev pub moves_in : Game → ℕ → List Entry → ℕ → List (Option Move)
moves_in game me h t = map (λ q. resolved game me h q t) (range_with_len 0 (players_of game))

-- the owner's own move of the turn
abbrev pub own_move : Game → ℕ → List Entry → ℕ → Move
own_move game me h t = move_of (known game me h me).moves t

-- what the owner gives and takes in the turn, by the moves that are there
abbrev pub score_in : Game → ℕ → List Entry → ℕ → Score
score_in game me h t = own_score game me (own_move game me h t) (moves_in game me h t)

-- the same in the first n turns
unfoldable pub score_to : Game → ℕ → List Entry → (n : ℕ) → Score
score_to game me h zero = no_score
score_to game me h (suc n) = plus (score_to game me h n) (score_in game me h n)

-- what the owner gives and takes in its settled turns
abbrev pub settled_score : Game → ℕ → List Entry → Score
settled_score game me h = score_to game me h (settled game me h)

-- a legal list of moves of each player, as long as the session, that begins with those that the log resolves
pub record Completes (game : Game) (me : ℕ) (h : List Entry) (moves : List (List Move)) : Type 0 where
  pub played : AreLegalMoves game moves game.turns
  pub begins : (q : ℕ) → q < players_of game → take (resolved_count game me h q) (moves_of moves q) ≡ (known game me h q).moves

-- however the players go on, the owner's score after its settled turns, as all play them in lockstep, is this one
abbrev pub IsScoreOfAll : Game → ℕ → List Entry → Score → Type 0
IsScoreOfAll game me h score = (moves : List (List Move)) → Completes game me h moves → score ≡ (lockstep game moves (settled game me h) me).score
