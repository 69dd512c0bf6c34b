-- Agreed: the turns in which the players' own logs agree. The log of each number is that of the player of this number.
use Rattle.std.specs.Prelude.{ℕ, Bool, List, [], Option, filter_map, length, ◌==◌}
use Rattle.std.specs.List.{list_all, range_with_len}
use Rattle.definitions.specs.declared.world.Move.{Move}
use Rattle.definitions.specs.declared.logs.Entry.{Entry}
use Rattle.definitions.specs.Lists.{item_or}
use Rattle.definitions.specs.World.{Game, players_of}
use Rattle.definitions.specs.Held.{resolved}
use Rattle.frame_index.specs.Agreeing.{one_move}

-- the move by which the log resolves the player's turn, if it does
abbrev pub resolved_at : Game → List (List Entry) → ℕ → ℕ → ℕ → Option Move
resolved_at game logs q t i = resolved game i (item_or logs i []) q t

-- the moves by which logs resolve the player's turn, one for each log that does, in order of the logs
abbrev pub moves_given : Game → List (List Entry) → ℕ → ℕ → List Move
moves_given game logs q t = filter_map (resolved_at game logs q t) (range_with_len 0 (length logs))

-- the move of the player's turn on which the logs agree: some log resolves the turn, and all that do give this move
unfoldable pub agreed_move : Game → List (List Entry) → ℕ → ℕ → Option Move
agreed_move game logs q t = one_move (moves_given game logs q t)

-- how many turns of the player are agreed
unfoldable pub agreed_count : Game → List (List Entry) → ℕ → ℕ
agreed_count game logs q = length (filter_map (agreed_move game logs q) (range_with_len 0 game.turns))

-- every turn of the player is agreed
abbrev pub is_whole_of : Game → List (List Entry) → ℕ → Bool
is_whole_of game logs q = agreed_count game logs q == game.turns

-- every turn of every player is agreed
abbrev pub is_whole : Game → List (List Entry) → Bool
is_whole game logs = list_all (is_whole_of game logs) (range_with_len 0 (players_of game))
