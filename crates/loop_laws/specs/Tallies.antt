-- Tallies: how often items of each kind come.
use Rattle.std.specs.Prelude.{ℕ, Bool, true, false, ◌==◌, ◌||◌, List, [], ◌∷◌}
use Rattle.std.specs.List.{flat_map}
use Rattle.socket_station.specs.declared.answers.Ready.{Ready}
use Rattle.socket_station.specs.declared.answers.Ready.TheVariants.{Opened, Socket as Seems}
use Rattle.socket_station.specs.Items.{Item, DialCall, ReadCall, WriteCall, Dialled, Polled, Took, Gave, ReadNotYet, WriteNotYet, Ended, Failed, Shut, Kept, Synced}

-- bytes were taken, or given
abbrev pub is_take : Item → Bool
is_take (Took n bytes) = true
is_take _ = false

abbrev pub is_give : Item → Bool
is_give (Gave n bytes) = true
is_give _ = false

-- those bytes
abbrev pub took_of : Item → List ℕ
took_of (Took n bytes) = bytes
took_of _ = []

abbrev pub gave_of : Item → List ℕ
gave_of (Gave n bytes) = bytes
gave_of _ = []

-- the bytes taken on all sockets, and those given on them
abbrev pub all_taken : List Item → List ℕ
all_taken items = flat_map took_of items

abbrev pub all_given : List Item → List ℕ
all_given items = flat_map gave_of items

-- an entry was kept, all was synced, or a poll was made
abbrev pub is_keep : Item → Bool
is_keep (Kept bytes) = true
is_keep _ = false

abbrev pub is_sync : Item → Bool
is_sync Synced = true
is_sync _ = false

abbrev pub is_poll : Item → Bool
is_poll (Polled list) = true
is_poll _ = false

-- a read of the socket found nothing, or a write to it was refused
abbrev pub is_idle_read : (socket : ℕ) → Item → Bool
is_idle_read n (ReadNotYet m) = m == n
is_idle_read n _ = false

abbrev pub is_idle_write : (socket : ℕ) → Item → Bool
is_idle_write n (WriteNotYet m) = m == n
is_idle_write n _ = false

-- a poll listed the socket
abbrev pub seems_in : (socket : ℕ) → List Ready → Bool
seems_in n [] = false
seems_in n (Opened m ∷ list) = seems_in n list
seems_in n (Seems m ∷ list) = (m == n) || seems_in n list

abbrev pub is_listing : (socket : ℕ) → Item → Bool
is_listing n (Polled list) = seems_in n list
is_listing n _ = false

-- the socket ended, was shut, or failed
abbrev pub is_closing : (socket : ℕ) → Item → Bool
is_closing n (Ended m) = m == n
is_closing n (Shut m) = m == n
is_closing n (Failed (ReadCall m)) = m == n
is_closing n (Failed (WriteCall m)) = m == n
is_closing n _ = false

-- the player was dialled, or that failed
abbrev pub is_dial : (q : ℕ) → Item → Bool
is_dial q (Dialled m p addr) = p == q
is_dial q (Failed (DialCall p addr)) = p == q
is_dial q _ = false
