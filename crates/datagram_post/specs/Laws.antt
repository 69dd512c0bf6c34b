-- Laws: what follows of a history's words.
use Rattle.std.specs.Prelude.{◌≡◌, ◌+◌, List, [], ◌∷◌, ◌++◌, if◌then◌else◌}
use Rattle.datagram_post.specs.Items.{Item}
use Rattle.datagram_post.specs.Moved.{given_in, gave_at}
use Rattle.datagram_post.specs.Faults.{is_fault, is_poll_call, is_keep_call, is_link_call, poll_faults, keep_faults, link_faults}

-- The count of failed polls rises by one where an item is such a failure, and else stays.
abbrev pub PollFaultsRise : Type 0
PollFaultsRise = (items : List Item) (item : Item) → poll_faults (items ++ item ∷ []) ≡ poll_faults items + (if is_fault is_poll_call item then 1 else 0)

-- The count of failed keeps does so.
abbrev pub KeepFaultsRise : Type 0
KeepFaultsRise = (items : List Item) (item : Item) → keep_faults (items ++ item ∷ []) ≡ keep_faults items + (if is_fault is_keep_call item then 1 else 0)

-- The count of failed receives and sends does so.
abbrev pub LinkFaultsRise : Type 0
LinkFaultsRise = (items : List Item) (item : Item) → link_faults (items ++ item ∷ []) ≡ link_faults items + (if is_fault is_link_call item then 1 else 0)

-- What was given goes on by what an item gives.
abbrev pub SentIsGiven : Type 0
SentIsGiven = (items : List Item) (item : Item) → given_in (items ++ item ∷ []) ≡ given_in items ++ gave_at item
