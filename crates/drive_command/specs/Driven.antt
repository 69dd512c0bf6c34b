-- Driven: what a peer that is driven has, and what contracts see of it.
use Rattle.std.specs.Prelude.{ℕ, ◌-◌, List, replicate, get_or, set}
use Rattle.definitions.specs.declared.logs.Entry.{Entry}
use Rattle.definitions.specs.World.{Game}
use Rattle.grid_world.specs.Sessions.{most_players}
use Rattle.wire_frames.specs.Reading.{Reading, at_start}
use Rattle.drive_command.specs.declared.readers.TheConstants.{READERS}

-- a log, and a reader of the bytes that come from each player
pub record State : Type 0 where
  pub log : List Entry
  pub readers : List Reading

-- the last player whose bytes a script may bring: the last that a session of this version may have
abbrev pub last_reader : Game → ℕ
last_reader game = most_players game.version - 1

-- the log, and readers to whom nothing came, one for each player that a session may have
abbrev pub fresh_state : List Entry → State
fresh_state log = record { log = log; readers = replicate READERS at_start }

-- the reader of a player's bytes
abbrev pub reader_of : State → ℕ → Reading
reader_of s q = get_or s.readers q at_start

-- the state with this log
abbrev pub state_with_log : State → List Entry → State
state_with_log s log = record { log = log; readers = s.readers }

-- the readers with this one for the player
abbrev pub with_reader : List Reading → ℕ → Reading → List Reading
with_reader readers q r = set readers q r

-- a peer's session, its player, what it has, and how many lines of its script were taken
pub record Driven : Type 0 where
  pub game : Game
  pub me : ℕ
  pub state : State
  pub lines : ℕ
