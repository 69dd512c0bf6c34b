-- Agreed: the turns in which logs agree, and the play of their moves.
use Rattle.std.specs.Prelude.{◌≡◌, ℕ, ◌<◌, Bool, List, [], Option, None, Some, filter_map, length, map, slice_get, ◌==◌, if◌then◌else◌}
use Rattle.std.specs.List.{list_all, range_with_len}
use Rattle.definitions.specs.declared.world.Move.{Move}
use Rattle.definitions.specs.declared.logs.Entry.{Entry}
use Rattle.definitions.specs.Lists.{item_or}
use Rattle.definitions.specs.World.{Game, players_of}
use Rattle.definitions.specs.Held.{resolved}
use Rattle.definitions.specs.Entries.{AreWellFormed}
use Rattle.definitions.specs.Findings.{got_known}
use Rattle.frame_index.specs.Agreeing.{one_move}
use Rattle.playout.specs.declared.standing.Standing.{Standing}
use Rattle.playout.specs.Lockstep.{lockstep}
use Rattle.auditor.specs.declared.world.WorldLine.{WorldLine}
use Rattle.auditor.specs.Accords.{joined}

-- the move by which the owner's log resolves the player's turn; a log of which no owner is known has no own entries
abbrev pub resolved_by : Game → Option ℕ → List Entry → ℕ → ℕ → Option Move
resolved_by game None h q t = slice_get (got_known game q h).moves t
resolved_by game (Some me) h q t = resolved game me h q t

-- the same of the log of this number
abbrev pub resolved_at : Game → List (Option ℕ) → List (List Entry) → ℕ → ℕ → ℕ → Option Move
resolved_at game owners logs q t i = resolved_by game (item_or owners i None) (item_or logs i []) q t

-- the moves by which logs resolve the player's turn, one for each log that does, in order of the logs
abbrev pub moves_given : Game → List (Option ℕ) → List (List Entry) → ℕ → ℕ → List Move
moves_given game owners logs q t = filter_map (resolved_at game owners logs q t) (range_with_len 0 (length logs))

-- the move of the player's turn on which the logs agree: some log resolves the turn, and all that do give this move
unfoldable pub agreed_move : Game → List (Option ℕ) → List (List Entry) → ℕ → ℕ → Option Move
agreed_move game owners logs q t = one_move (moves_given game owners logs q t)

-- the moves of the player's agreed turns, in order
unfoldable pub agreed_moves : Game → List (Option ℕ) → List (List Entry) → ℕ → List Move
agreed_moves game owners logs q = filter_map (agreed_move game owners logs q) (range_with_len 0 game.turns)

-- how many turns of the player are agreed
abbrev pub agreed_count : Game → List (Option ℕ) → List (List Entry) → ℕ → ℕ
agreed_count game owners logs q = length (agreed_moves game owners logs q)

-- each player's moves, in order of player
abbrev pub all_agreed_moves : Game → List (Option ℕ) → List (List Entry) → List (List Move)
all_agreed_moves game owners logs = map (agreed_moves game owners logs) (range_with_len 0 (players_of game))

-- these are moves of all turns
abbrev pub are_whole : Game → List (List Move) → Bool
are_whole game moves = list_all (λ own. length own == game.turns) moves

-- the line of the player's standing
abbrev pub line_of : Standing → WorldLine
line_of s = record { track = s.track; score = s.score }

-- the player's line after lockstep by these moves over all turns; none where they aren't moves of all turns
abbrev pub world_by : Game → List (List Move) → ℕ → Option WorldLine
world_by game moves q = if are_whole game moves then Some (line_of (lockstep game moves game.turns q)) else None

-- where the player stands after the play of the agreed moves over all turns, and what it scored; none where some turn of some
-- player isn't agreed
abbrev pub world : Game → List (Option ℕ) → List (List Entry) → ℕ → Option WorldLine
world game owners logs q = world_by game (all_agreed_moves game owners logs) q

-- each log of which an owner is known is one of the session that the owner may have written, honest or not
abbrev pub AreOwned : Game → List (Option ℕ) → List (List Entry) → Type 0
AreOwned game owners logs = (i o : ℕ) (h : List Entry) → slice_get logs i ≡ Some h → item_or owners i None ≡ Some o → AreWellFormed game o h

-- these moves are the player's in the logs of others, and those in its own logs
abbrev pub ArePlays : Game → List (Option ℕ) → List (List Entry) → ℕ → List Move → List Move → Type 0
ArePlays game owners logs q got made = (t : ℕ) → t < game.turns → agreed_move game owners logs q t ≡ joined (slice_get got t) (slice_get made t)
