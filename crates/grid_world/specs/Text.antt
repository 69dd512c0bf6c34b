-- The one text of a session.
use Rattle.std.specs.Prelude.{ℕ, suc, List, [], ◌∷◌, ◌++◌, map, codes, ◌==◌, ◌&&◌, if◌then◌else◌}
use Rattle.sha2.specs.Sha256.{sha256}
use Rattle.definitions.specs.declared.world.Cell.{Cell}
use Rattle.definitions.specs.declared.world.Seat.{Seat}
use Rattle.definitions.specs.World.{Game, Rules, players_of}
use Rattle.text_lines.specs.Lines.{line_of, joined}

-- the line that says how many turns ahead players commit, which no text of version 1 has
abbrev pub ahead_lines : Game → List (List ℕ)
ahead_lines game = if game.version == 1 then [] else line_of (codes "ahead") (game.ahead ∷ []) ∷ []

-- the lines before those of the players: six, or seven
abbrev pub head_lines : Game → List (List ℕ)
head_lines game =
    line_of (codes "playout") (game.version ∷ [])
    ∷ line_of (codes "grid") (game.grid.width ∷ game.grid.height ∷ [])
    ∷ line_of (codes "rules") (game.rules.speed ∷ game.rules.reach ∷ game.rules.blast ∷ [])
    ∷ line_of (codes "charge") (game.rules.start_charge ∷ game.rules.cap ∷ game.rules.cost ∷ [])
    ∷ line_of (codes "turns") (game.turns ∷ [])
    ∷ ahead_lines game ++ line_of (codes "players") (players_of game ∷ [])
    ∷ []

-- the player's own speed and reach, where they aren't those of the rules
abbrev pub own_numbers : Rules → Seat → List ℕ
own_numbers rules s = if (s.speed == rules.speed) && (s.reach == rules.reach) then [] else s.speed ∷ s.reach ∷ []

-- the line of player q
abbrev pub player_line : Rules → Seat → ℕ → List ℕ
player_line rules s q = line_of (codes "player") (q ∷ s.start.x ∷ s.start.y ∷ own_numbers rules s)

-- the lines of these players, the first of whom has the number q
abbrev pub player_lines : Rules → List Seat → ℕ → List (List ℕ)
player_lines rules [] q = []
player_lines rules (s ∷ seats) q = player_line rules s q ∷ player_lines rules seats (suc q)

abbrev pub wall_line : Cell → List ℕ
wall_line c = line_of (codes "wall") (c.x ∷ c.y ∷ [])

abbrev pub end_line : List ℕ
end_line = line_of (codes "end") []

abbrev pub session_lines : Game → List (List ℕ)
session_lines game = head_lines game ++ (player_lines game.rules game.seats 0 ++ (map wall_line game.grid.walls ++ (end_line ∷ [])))

unfoldable pub session_text : Game → List ℕ
session_text game = joined (session_lines game)

-- a session as one of version 2, with the id of its text there; one of version 2 stays as it is
abbrev pub upgraded : Game → Game
upgraded game = if game.version == 1 then record game { version = 2; id = sha256 (session_text (record game { version = 2 })) } else game
