-- Paying: what stands for an item among others, so that each kind of item comes only so often.
use Rattle.std.specs.Prelude.{◌≡◌, ◌⊎◌, ℕ}
use Rattle.socket_station.specs.Items.{Item, ReadCall, WriteCall, Ended, Failed, Shut, Kept}
use Rattle.loop_laws.specs.Listing.{IsRead, IsWrite}

-- an entry was kept
abbrev pub IsKept : Item → Type 0
IsKept (Kept bytes) = Unit {0}
IsKept _ = ⊥

-- the socket ended, was shut, or failed
abbrev pub Closes : (socket : ℕ) → Item → Type 0
Closes n (Ended m) = m ≡ n
Closes n (Shut m) = m ≡ n
Closes n (Failed (ReadCall m)) = m ≡ n
Closes n (Failed (WriteCall m)) = m ≡ n
Closes n _ = ⊥

-- the socket was read, written or shut
abbrev pub Touches : (socket : ℕ) → Item → Type 0
Touches n item = IsRead n item ⊎ (IsWrite n item ⊎ (item ≡ Shut n))
