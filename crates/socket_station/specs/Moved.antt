-- Which bytes a history took, gave and kept.
use Rattle.std.specs.Prelude.{ℕ, List, [], ◌++◌, ◌==◌, if◌then◌else◌}
use Rattle.std.specs.List.{flat_map, fold}
use Rattle.socket_station.specs.Items.{Item, Took, Gave, Kept, Synced}

-- the bytes that an item took on a socket
abbrev pub took_at : ℕ → Item → List ℕ
took_at s (Took t bytes) = if t == s then bytes else []
took_at s _ = []

-- the bytes that an item gave on a socket
abbrev pub gave_at : ℕ → Item → List ℕ
gave_at s (Gave t bytes) = if t == s then bytes else []
gave_at s _ = []

-- the bytes that an item kept
abbrev pub kept_at : Item → List ℕ
kept_at (Kept bytes) = bytes
kept_at _ = []

-- the bytes taken on a socket
abbrev pub taken_in : ℕ → List Item → List ℕ
taken_in s items = flat_map (took_at s) items

-- the bytes given on a socket
abbrev pub given_in : ℕ → List Item → List ℕ
given_in s items = flat_map (gave_at s) items

-- the bytes kept
abbrev pub kept_in : List Item → List ℕ
kept_in items = flat_map kept_at items

-- the bytes kept, and how much of them stays after a crash
pub record Log : Type 0 where
  pub kept : List ℕ
  pub synced : List ℕ

abbrev pub log_after : Log → Item → Log
log_after log (Kept bytes) = record { kept = log.kept ++ bytes; synced = log.synced }
log_after log Synced = record { kept = log.kept; synced = log.kept }
log_after log _ = log

abbrev pub log_in : List Item → Log
log_in items = fold log_after (record { kept = []; synced = [] }) items

-- the bytes kept up to the last sync
abbrev pub synced_in : List Item → List ℕ
synced_in items = (log_in items).synced
