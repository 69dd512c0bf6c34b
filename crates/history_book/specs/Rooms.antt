-- The room of a history in memory.
use Rattle.std.specs.Prelude.{ℕ, ◌-◌, ◌<◌, ◌≤◌, ◌≡◌, Bool, ◌&&◌, nat_lt, nat_le, Some, None, if◌then◌else◌}
use Rattle.std.specs.Option.{is_none}
use Rattle.history_book.specs.declared.room.Room.{Room}

-- whether one more item of so many bytes has room: none has once a call found too little
abbrev pub fits : Room → ℕ → Bool
fits room bytes = is_none room.spent && nat_lt 0 room.items && nat_le bytes room.bytes

-- One more item of so many bytes has room, or a call found too little before.
abbrev pub HasRoomFor : Room → ℕ → Type 0
HasRoomFor room bytes = room.spent ≡ None → (0 < room.items) × (bytes ≤ room.bytes)

-- the room behind one more item of so many bytes
abbrev pub spent_by : ℕ → Room → Room
spent_by bytes room = if is_none room.spent then record { items = room.items - 1; bytes = room.bytes - bytes; spent = room.spent } else room

-- the room after a call that found too little, when so many items were told: the first such call counts
abbrev pub cut_at : ℕ → Room → Room
cut_at told room = if is_none room.spent then record { items = room.items; bytes = room.bytes; spent = Some told } else room
