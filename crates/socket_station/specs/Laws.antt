-- What follows of a history's words.
use Rattle.std.specs.Prelude.{◌≡◌, ◌⊎◌, ℕ, ◌+◌, Bool, true, false, List, [], ◌∷◌, ◌++◌, ◌==◌, if◌then◌else◌}
use Rattle.socket_station.specs.declared.answers.Standing.TheVariants.{Open, Closed}
use Rattle.socket_station.specs.Items.{Item, Dialled, Polled}
use Rattle.socket_station.specs.Standings.{standing_in, opens, OpensNew}
use Rattle.socket_station.specs.Faults.{is_fault, is_poll_call, is_keep_call, is_link_call, poll_faults, keep_faults, link_faults}

-- A closed number stays closed after each item that a station may add.
abbrev pub ClosedStaysClosed : Type 0
ClosedStaysClosed = (items : List Item) (item : Item) (n : ℕ) → standing_in items n ≡ Closed → OpensNew items item → standing_in (items ++ item ∷ []) n ≡ Closed

-- whether an item opens a number
abbrev pub is_opening : Item → ℕ → Bool
is_opening (Dialled s player addr) n = s == n
is_opening (Polled list) n = opens list n
is_opening _ n = false

-- A number is open after an item only where it was before, or where the item opens it.
abbrev pub OpensByItsItem : Type 0
OpensByItsItem = (items : List Item) (item : Item) (n : ℕ) → standing_in (items ++ item ∷ []) n ≡ Open → (is_opening item n ≡ true) ⊎ (standing_in items n ≡ Open)

-- Each count rises by one where an item is the failure of a call of its kind, and else stays.
abbrev pub PollFaultsRise : Type 0
PollFaultsRise = (items : List Item) (item : Item) → poll_faults (items ++ item ∷ []) ≡ poll_faults items + (if is_fault is_poll_call item then 1 else 0)

abbrev pub KeepFaultsRise : Type 0
KeepFaultsRise = (items : List Item) (item : Item) → keep_faults (items ++ item ∷ []) ≡ keep_faults items + (if is_fault is_keep_call item then 1 else 0)

abbrev pub LinkFaultsRise : Type 0
LinkFaultsRise = (items : List Item) (item : Item) → link_faults (items ++ item ∷ []) ≡ link_faults items + (if is_fault is_link_call item then 1 else 0)
