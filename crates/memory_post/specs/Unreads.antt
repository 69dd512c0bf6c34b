-- Unreads: the datagrams that came and were not taken.
use Rattle.std.specs.Prelude.{ℕ, ◌≡◌, Bool, List, [], ◌∷◌, min, take, length, drop, if◌then◌else◌}
use Rattle.datagram_post.specs.declared.answers.TheConstants.{MOST_TAKEN}
use Rattle.datagram_post.specs.declared.answers.Received.{Received}
use Rattle.datagram_post.specs.declared.answers.Received.TheVariants as R

-- how many bytes of the first one are taken
abbrev pub front_size : List (List ℕ) → ℕ
front_size [] = 0
front_size (d ∷ more) = min (length d) MOST_TAKEN

-- the first one is taken, and nothing where none stands unread
abbrev pub received_of : List (List ℕ) → Received
received_of [] = R.NotYet
received_of (d ∷ more) = R.Took (min (length d) MOST_TAKEN)

-- what a receive answers that goes on, or fails
abbrev pub receive_answer : (goes : Bool) → List (List ℕ) → Received
receive_answer goes unread = if goes then received_of unread else R.Failed

-- what stands unread after a receive: one that fails takes nothing
abbrev pub unread_after : (goes : Bool) → List (List ℕ) → List (List ℕ)
unread_after goes unread = if goes then drop 1 unread else unread

-- the bytes of the first one
abbrev pub front_of : List (List ℕ) → List ℕ
front_of [] = []
front_of (d ∷ more) = d

-- The bytes taken are the first of the first datagram.
abbrev pub TakesFront : Received → (buf : List ℕ) → List (List ℕ) → Type 0
TakesFront (R.Took n) buf unread = take n buf ≡ take n (front_of unread)
TakesFront R.NotYet buf unread = Unit {0}
TakesFront R.Failed buf unread = Unit {0}
