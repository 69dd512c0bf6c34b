-- Telling: what a post tells of its datagrams and its log is what its machine answered.
use Rattle.std.specs.Prelude.{◌≡◌, ℕ, ◌==◌, List, [], ◌∷◌, ◌++◌, Ok, length, if◌then◌else◌}
use Rattle.std.specs.List.{flat_map, fold}
use Rattle.socket_station.specs.Moved.{Log}
use Rattle.datagram_post.specs.Items.{Item, Kept, Synced}
use Rattle.datagram_post.specs.Moved.{Mail, given_in, kept_in, taken_in}
use Rattle.machine_host.specs.Asks.{Ask, Received, Sent}
use Rattle.host_log.specs.Logs.{LogStand}
use Rattle.host_log.specs.Telling.{TellsLog}

-- the datagram that a call took
abbrev pub received_at : Ask → List (List ℕ)
received_at (Received (Ok bytes)) = bytes ∷ []
received_at _ = []

-- the datagram that a call gave whole
abbrev pub sent_at : Ask → List Mail
sent_at (Sent addr bytes (Ok count)) = if count == length bytes then record { to = addr; bytes = bytes } ∷ [] else []
sent_at _ = []

-- the datagrams that the machine took
abbrev pub received_in : List Ask → List (List ℕ)
received_in asks = flat_map received_at asks

-- and those that it gave whole
abbrev pub sent_in : List Ask → List Mail
sent_in asks = flat_map sent_at asks

-- the bytes kept, and those of them that were kept at the last sync
abbrev pub log_after : Log → Item → Log
log_after log (Kept bytes) = record { kept = log.kept ++ bytes; synced = log.synced }
log_after log Synced = record { kept = log.kept; synced = log.kept }
log_after log _ = log

abbrev pub log_in : List Item → Log
log_in items = fold log_after (record { kept = []; synced = [] }) items

-- At every moment: the datagrams taken and given are those that the machine took and gave, in their
-- order; what was kept stands in the file, in order, and what was synced stays.
pub record Tells (stand : LogStand) (asks : List Ask) (items : List Item) : Type 0 where
  pub taken : taken_in items ≡ received_in asks
  pub given : given_in items ≡ sent_in asks
  pub kept : kept_in items ≡ (log_in items).kept
  pub log : TellsLog stand asks (log_in items)
