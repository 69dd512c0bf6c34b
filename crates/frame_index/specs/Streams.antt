-- Streams: what is known of a player's stream, in numbers.
use Rattle.std.specs.Prelude.{◌≡◌, ℕ, ◌+◌, ◌*◌, ◌<◌, ◌≤◌, List, Option, Some, None, length, min, IsTrue}
use Rattle.definitions.specs.declared.frames.TurnFrame.{TurnFrame}
use Rattle.definitions.specs.declared.limits.TheConstants.{MOST_TURNS}
use Rattle.definitions.specs.World.{Game, is_open}
use Rattle.definitions.specs.Moves.{track_after}
use Rattle.definitions.specs.Held.{Known, known_to, next_known}
use Rattle.grid_world.specs.declared.streams.Stream.{Stream}
use Rattle.grid_world.specs.Streams.{next_of}

-- how many commitments and moves are known, and the track after these
abbrev pub stream_of : Game → ℕ → Known → Stream
stream_of game q k = record { commits = length k.digests; resolved = length k.moves; track = track_after game q k.moves }

-- the stream is what the frames show of so many places
abbrev pub IsReadFrom : Game → ℕ → List TurnFrame → Stream → Type 0
IsReadFrom game q fs s = s ≡ stream_of game q (known_to game q fs (next_of s))

-- the next place is that of a commitment
abbrev pub IsCommitNext : Game → Stream → Type 0
IsCommitNext game s = s.commits < min (s.resolved + game.ahead) game.turns

-- with one place more: such a stream, or none where nothing more is known
abbrev pub IsNext : Game → ℕ → List TurnFrame → Stream → Option Stream → Type 0
IsNext game q fs s None = next_known game q fs (known_to game q fs (next_of s)) ≡ known_to game q fs (next_of s)
IsNext game q fs s (Some r) = IsReadFrom game q fs r × (next_of r ≡ next_of s + 1)

-- what holds of every stream of a session
pub record IsStream (game : Game) (s : Stream) : Type 0 where
  pub before : s.resolved ≤ s.commits
  pub after : s.commits ≤ s.resolved + game.ahead
  pub within : s.commits ≤ game.turns
  pub few : s.commits + s.resolved ≤ 2 * MOST_TURNS
  pub opens : IsTrue (is_open game.grid s.track.at)
