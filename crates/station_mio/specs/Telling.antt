-- Telling: what a station tells of its bytes and its log is what its machine answered.
use Rattle.std.specs.Prelude.{◌≡◌, ℕ, Bool, ◌==◌, List, [], Option, Ok, take, if◌then◌else◌}
use Rattle.std.specs.List.{flat_map}
use Rattle.socket_station.specs.Items.{Item}
use Rattle.socket_station.specs.Moved.{given_in, log_in, taken_in}
use Rattle.machine_host.specs.Asks.{Ask, Read, Wrote}
use Rattle.host_log.specs.Telling.{IsFront, IsLog, file_in, stays_of}

-- the bytes that a call took of the socket
abbrev pub read_at : (socket : ℕ) → Ask → List ℕ
read_at s (Read n (Ok bytes)) = if n == s then bytes else []
read_at s _ = []

-- the bytes that a call gave on it
abbrev pub wrote_at : (socket : ℕ) → Ask → List ℕ
wrote_at s (Wrote n bytes (Ok count)) = if n == s then take count bytes else []
wrote_at s _ = []

-- the bytes that the machine took of the socket
abbrev pub read_in : (socket : ℕ) → List Ask → List ℕ
read_in s asks = flat_map (read_at s) asks

-- and those that it gave
abbrev pub wrote_in : (socket : ℕ) → List Ask → List ℕ
wrote_in s asks = flat_map (wrote_at s) asks

-- At every moment: the bytes taken and given on each socket are those that the machine took and gave
-- under its number, what was kept stands in the file, in order, and what was synced stays.
pub record Tells (log : Option Bool) (begun : Bool) (asks : List Ask) (items : List Item) : Type 0 where
  pub taken : (s : ℕ) → taken_in s items ≡ read_in s asks
  pub given : (s : ℕ) → given_in s items ≡ wrote_in s asks
  pub kept : IsFront (log_in items).kept (file_in asks).bytes
  pub synced : IsFront (log_in items).synced (stays_of (file_in asks))
  pub same : IsLog log begun (file_in asks) (log_in items)
