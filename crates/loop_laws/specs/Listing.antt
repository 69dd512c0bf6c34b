-- Listing: which items try a socket, and which say that it may be tried again.
use Rattle.std.specs.Prelude.{◌≡◌, ℕ, List}
use Rattle.definition_laws.specs.Members.{Has}
use Rattle.socket_station.specs.declared.answers.Ready.TheVariants.{Socket as Seems}
use Rattle.socket_station.specs.Items.{Item, ReadCall, WriteCall, Polled, Took, Gave, ReadNotYet, WriteNotYet, Ended, Failed}

-- a poll listed the socket
abbrev pub Lists : (socket : ℕ) → Item → Type 0
Lists n (Polled list) = Has list (Seems n)
Lists n _ = ⊥

-- a read of the socket was answered, or failed
abbrev pub IsRead : (socket : ℕ) → Item → Type 0
IsRead n (Took m bytes) = m ≡ n
IsRead n (ReadNotYet m) = m ≡ n
IsRead n (Ended m) = m ≡ n
IsRead n (Failed (ReadCall m)) = m ≡ n
IsRead n _ = ⊥

-- a write to it was
abbrev pub IsWrite : (socket : ℕ) → Item → Type 0
IsWrite n (Gave m bytes) = m ≡ n
IsWrite n (WriteNotYet m) = m ≡ n
IsWrite n (Failed (WriteCall m)) = m ≡ n
IsWrite n _ = ⊥

-- one of the items is such a one
abbrev pub SomeIs : (Item → Type 0) → List Item → Type 0
SomeIs P items = (item : Item) × Has items item × P item
