-- Sending: what goes out over a link.
use Rattle.std.specs.Prelude.{ℕ, List, [], drop, flat_map, slice_get, option_map, unwrap_or}
use Rattle.commitment.specs.Spelling.{frame_bytes}
use Rattle.definitions.specs.declared.logs.Entry.{Entry}
use Rattle.definitions.specs.Logs.{made}

-- the bytes of the frame at this place of those that these entries say were made, none past the last
abbrev pub made_bytes : List Entry → ℕ → List ℕ
made_bytes entries place = unwrap_or (option_map frame_bytes (slice_get (made entries) place)) []

-- the bytes of all those frames from the place on
abbrev pub bytes_from : List Entry → ℕ → List ℕ
bytes_from entries place = flat_map frame_bytes (drop place (made entries))
