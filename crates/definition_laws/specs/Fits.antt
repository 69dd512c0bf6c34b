-- Fits: how many entries an honest log has at most.
use Rattle.std.specs.Prelude.{ℕ, ◌+◌, ◌-◌, ◌*◌, ◌<◌, ◌≤◌, List, length, IsTrue}
use Rattle.definitions.specs.declared.logs.Entry.{Entry}
use Rattle.definitions.specs.declared.limits.TheConstants.{MOST_ENTRIES, MOST_TURNS, MOST_TURNS_OF_ALL}
use Rattle.definitions.specs.World.{Game, players_of}
use Rattle.definitions.specs.Findings.{is_clean}
use Rattle.definitions.specs.Honest.{IsHonest}

-- for each turn its choice and the owner's two frames, and two frames of each other player
abbrev pub room_of : Game → ℕ
room_of game = 3 * game.turns + 2 * game.turns * (players_of game - 1)

-- an honest log without a finding has no more entries than that
abbrev pub CleanLogsFit : Type 0
CleanLogsFit = (game : Game) (me : ℕ) (h : List Entry) → 1 ≤ game.ahead → me < players_of game → IsHonest game me h → IsTrue (is_clean game h) → length h ≤ room_of game

-- an honest log has one more at most, which makes a finding
abbrev pub LogsFit : Type 0
LogsFit = (game : Game) (me : ℕ) (h : List Entry) → 1 ≤ game.ahead → me < players_of game → IsHonest game me h → length h ≤ room_of game + 1

-- and in a session of the most turns, of one player and of all together, that is no more than a known number
abbrev pub RoomIsSmall : Type 0
RoomIsSmall = (game : Game) → game.turns ≤ MOST_TURNS → players_of game * game.turns ≤ MOST_TURNS_OF_ALL → room_of game ≤ MOST_ENTRIES
