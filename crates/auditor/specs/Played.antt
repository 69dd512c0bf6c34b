-- Played: the play of lists of moves, one list a player.
use Rattle.std.specs.Prelude.{◌<◌, ℕ, List, Option, None, Some, filter_map, map, slice_get, IsTrue}
use Rattle.definitions.specs.declared.world.Move.{Move}
use Rattle.definitions.specs.Lists.{item_or}
use Rattle.definitions.specs.World.{Game, is_open, players_of}
use Rattle.playout.specs.Lockstep.{AreLegalMoves}
use Rattle.playout.specs.Playing.{Played, standing_of}
use Rattle.auditor.specs.declared.world.WorldLine.{WorldLine}
use Rattle.auditor.specs.Agreed.{are_whole}

-- the move of each player that has one at the turn
abbrev pub moves_at : List (List Move) → ℕ → List Move
moves_at moves t = filter_map (λ own. slice_get own t) moves

-- moves of all turns are legal ones
abbrev pub AreLegalIfWhole : Game → List (List Move) → Type 0
AreLegalIfWhole game moves = IsTrue (are_whole game moves) → AreLegalMoves game moves game.turns

-- the player's line of these, if there are lines
abbrev pub line_at : List WorldLine → ℕ → Option WorldLine
line_at lines q = item_or (map (λ line. Some line) lines) q None

-- each player stands on an open cell
abbrev pub AreOpen : Game → Played → Type 0
AreOpen game p = (q : ℕ) → q < players_of game → IsTrue (is_open game.grid (standing_of p q).track.at)
