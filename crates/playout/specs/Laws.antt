-- Laws of turns: own turns count what the turns of all players do, and players stand where their moves lead.
use Rattle.std.specs.Prelude.{◌≡◌, ◌<◌, ◌≤◌, ℕ, zero, suc, List, Option, None, Some, take, map, length}
use Rattle.definitions.specs.declared.world.Move.{Move}
use Rattle.definitions.specs.Lists.{item_or}
use Rattle.definitions.specs.World.{Game}
use Rattle.definitions.specs.Moves.{track_after}
use Rattle.playout.specs.declared.hits.Score.{Score}
use Rattle.playout.specs.Hits.{between, no_score, plus, move_of, turn_score, own_score}
use Rattle.playout.specs.Lockstep.{AreLegalMoves, lockstep, moves_of, turn_moves}
use Rattle.playout.specs.Playing.{AreLegalNow, IsLockstep, Played}

-- the moves of a turn, all of which are there
abbrev pub all_there : List Move → List (Option Move)
all_there moves = map (λ mv. Some mv) moves

-- an own turn against the moves of all players counts what their turn counts for the player
abbrev pub OwnTurnsCountAlike : Type 0
OwnTurnsCountAlike = (game : Game) (moves : List Move) (me : ℕ) → own_score game me (move_of moves me) (all_there moves) ≡ turn_score game moves me

-- the other move is there and no other one, or it isn't there, and neither move hits the player of the other one
abbrev pub IsThereOrApart : Game → (own other : Move) → Option Move → Type 0
IsThereOrApart game own other None = between game own other ≡ no_score
IsThereOrApart game own other (Some mv) = mv ≡ other

-- an own turn counts the same where only moves of players are missing that it neither hits nor is hit by
abbrev pub MissingMovesDoNotMatter : Type 0
MissingMovesDoNotMatter = (game : Game) (moves : List Move) (others : List (Option Move)) (me : ℕ) → length others ≡ length moves →
    ((q : ℕ) → q < length moves → (q ≡ me → ⊥) → IsThereOrApart game (move_of moves me) (move_of moves q) (item_or others q None)) →
    own_score game me (move_of moves me) others ≡ turn_score game moves me

-- what the player's own turns count, the first n of these lists, against the moves of all players
abbrev pub own_turns : Game → List (List Move) → (n me : ℕ) → Score
own_turns game moves zero me = no_score
own_turns game moves (suc n) me = plus (own_turns game moves n me) (own_score game me (move_of (turn_moves moves n) me) (all_there (turn_moves moves n)))

-- own turns against all players score as lockstep does
abbrev pub OwnTurnsScoreAsLockstep : Type 0
OwnTurnsScoreAsLockstep = (game : Game) (moves : List (List Move)) (n me : ℕ) → own_turns game moves n me ≡ (lockstep game moves n me).score

-- in lockstep a player stands where its own moves lead
abbrev pub PlayersStandByTheirMoves : Type 0
PlayersStandByTheirMoves = (game : Game) (moves : List (List Move)) (n q : ℕ) → q < length moves → n ≤ length (moves_of moves q) → (lockstep game moves n q).track ≡ track_after game q (take n (moves_of moves q))

-- a playout that played the first turns of legal lists of moves may play the next one
abbrev pub LegalMovesArePlayed : Type 0
LegalMovesArePlayed = (game : Game) (moves : List (List Move)) (most : ℕ) (p : Played) → AreLegalMoves game moves most → IsLockstep game moves p → p.turns < most → AreLegalNow game p (turn_moves moves p.turns)
