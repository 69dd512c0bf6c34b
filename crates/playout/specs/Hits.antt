-- Hits: whom a strike hits, and what the hits of a turn count.
use Rattle.std.specs.Prelude.{ℕ, ◌+◌, Bool, false, List, [], ◌∷◌, Option, Some, None, nat_le, ◌==◌, if◌then◌else◌}
use Rattle.definitions.specs.declared.world.Cell.{Cell}
use Rattle.definitions.specs.declared.world.Move.{Move}
use Rattle.definitions.specs.Lists.{item_or}
use Rattle.definitions.specs.World.{Game, distance}
use Rattle.playout.specs.declared.hits.Score.{Score}

-- no hits
abbrev pub no_score : Score
no_score = record { given = 0; taken = 0 }

-- the hits of both
abbrev pub plus : Score → Score → Score
plus a b = record { given = a.given + b.given; taken = a.taken + b.taken }

-- a strike hits a player whose cell after the turn is within the blast of the cell struck
abbrev pub strikes : Game → Option Cell → Cell → Bool
strikes game None at = false
strikes game (Some c) at = nat_le (distance c at) game.rules.blast

-- how many hits a move gives the player of another move of the turn
abbrev pub hits : Game → Move → Move → ℕ
hits game mv other = if strikes game mv.strike other.to then 1 else 0

-- the hits between two players, for the first: each counts one given for the striker and one taken for the one hit
abbrev pub between : Game → Move → Move → Score
between game own other = record { given = hits game own other; taken = hits game other own }

-- the same, and no hits where both are one player: a player never hits itself
abbrev pub between_unless : Bool → Game → Move → Move → Score
between_unless same game own other = if same then no_score else between game own other

-- for player me with its own move, the hits between it and the players of these moves, the first of whom has the number p
unfoldable pub score_among : Game → (me : ℕ) → Move → (p : ℕ) → List Move → Score
score_among game me own p [] = no_score
score_among game me own p (other ∷ moves) = plus (between_unless (p == me) game own other) (score_among game me own (p + 1) moves)

-- a move that no player makes, for those who have none
abbrev pub no_move : Move
no_move = record { to = record { x = 0; y = 0 }; strike = None }

-- the player's move of these, which are the players' in order
abbrev pub move_of : List Move → ℕ → Move
move_of moves q = item_or moves q no_move

-- what the player gives and takes in a turn in which the players make these moves
abbrev pub turn_score : Game → List Move → ℕ → Score
turn_score game moves q = score_among game q (move_of moves q) 0 moves

-- the hits between two players where the other one's move is there
abbrev pub between_known : Bool → Game → Move → Option Move → Score
between_known same game own None = no_score
between_known same game own (Some other) = between_unless same game own other

-- the same as above against those of the moves that are there
unfoldable pub own_score_among : Game → (me : ℕ) → Move → (p : ℕ) → List (Option Move) → Score
own_score_among game me own p [] = no_score
own_score_among game me own p (other ∷ others) = plus (between_known (p == me) game own other) (own_score_among game me own (p + 1) others)

-- what the player gives and takes with its own move against the moves of others that are there
abbrev pub own_score : Game → ℕ → Move → List (Option Move) → Score
own_score game me own others = own_score_among game me own 0 others
