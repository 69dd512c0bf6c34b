-- Streams: what came of each player's log, and the lists of entries that it gives.
use Rattle.std.specs.Prelude.{ℕ, ◌-◌, Bool, true, false, not, ◌&&◌, ◌==◌, List, [], ◌∷◌, ◌++◌, Option, Some, None, flat_map, is_some, length, map, replicate, slice_get, slice_set, if◌then◌else◌}
use Rattle.definitions.specs.declared.limits.TheConstants.{LONGEST_LOG}
use Rattle.definitions.specs.declared.logs.Entry.{Entry}
use Rattle.definitions.specs.World.{Game, players_of}
use Rattle.session_log.specs.Feeding.{LogFeeding, feed_at_start, given_over}
use Rattle.session_log.specs.Laws.{owner_in}
use Rattle.session_log.specs.Reading.{read_log}

-- the entries of a log's bytes before the first fault
abbrev pub entries_in : Game → List ℕ → List Entry
entries_in game bytes = (read_log game bytes).entries

-- the bytes of these pieces
abbrev pub joined : List (List ℕ) → List ℕ
joined pieces = flat_map (λ piece. piece) pieces

-- what came of one player's log
pub record Stream : Type 0 where
  -- the bytes that were taken of it, piece by piece, on all sockets that had the player's name,
  -- each without its HELLO
  pub pieces : List (List ℕ)
  -- a byte closed the player: nothing more is taken of its log, and no socket gets its name
  pub is_closed : Bool

-- nothing came
abbrev pub no_stream : Stream
no_stream = record { pieces = []; is_closed = false }

-- the bytes of the log that came
abbrev pub bytes_of : Stream → List ℕ
bytes_of s = joined s.pieces

-- how many these are: from the byte of that number on the log is wanted
abbrev pub count_of : Stream → ℕ
count_of s = length (bytes_of s)

-- how far a reader of logs came by these pieces
abbrev pub feeding_of : Game → List (List ℕ) → LogFeeding
feeding_of game pieces = (given_over game (feed_at_start game.id) pieces).feeding

-- how many bytes may still be taken of the log
abbrev pub room_of : Stream → ℕ
room_of s = if s.is_closed then 0 else LONGEST_LOG - count_of s

-- the first byte of these, which names the log's owner, is another player's
abbrev pub is_others : (q : ℕ) → List ℕ → Bool
is_others q [] = false
is_others q (b ∷ bytes) = not (b == q)

-- with these pieces: a fault of the log closes the player
abbrev pub gone_on : Game → List (List ℕ) → Stream
gone_on game pieces = record { pieces = pieces; is_closed = is_some (feeding_of game pieces).fault }

-- Bytes came of the player's log. A first byte that is another player's closes the player, and
-- none of these bytes is part of the log.
abbrev pub took : Game → (q : ℕ) → Stream → List ℕ → Stream
took game q s bytes =
    if (count_of s == 0) && is_others q bytes then record s { is_closed = true }
    else gone_on game (s.pieces ++ bytes ∷ [])

-- ---- all players, by number

-- nothing came of any
abbrev pub no_streams : Game → List Stream
no_streams game = replicate (players_of game) no_stream

-- bytes came of the log of the player of this stream, if there is one
abbrev pub with_stream : Game → (q : ℕ) → (bytes : List ℕ) → List Stream → Option Stream → List Stream
with_stream game q bytes streams None = streams
with_stream game q bytes streams (Some s) = slice_set streams q (took game q s bytes)

-- bytes came of a player's log
abbrev pub took_of : Game → (q : ℕ) → (bytes : List ℕ) → List Stream → List Stream
took_of game q bytes streams = with_stream game q bytes streams (slice_get streams q)

-- how many bytes came, if there is such a player
abbrev pub count_at : Option Stream → ℕ
count_at None = 0
count_at (Some s) = count_of s

-- how many bytes may still be taken, if there is such a player
abbrev pub room_at : Option Stream → ℕ
room_at None = 0
room_at (Some s) = room_of s

-- ---- what they give

-- the whole entries before the first fault
abbrev pub entries_of : Game → Stream → List Entry
entries_of game s = entries_in game (bytes_of s)

-- whose log it is, once its first byte came
abbrev pub owner_of : Game → Stream → Option ℕ
owner_of game s = owner_in game (bytes_of s)

-- the lists of entries that the streams give, by the players' numbers
abbrev pub lists_of : Game → List Stream → List (List Entry)
lists_of game streams = map (entries_of game) streams

-- whose logs they are
abbrev pub owners_of : Game → List Stream → List (Option ℕ)
owners_of game streams = map (owner_of game) streams
