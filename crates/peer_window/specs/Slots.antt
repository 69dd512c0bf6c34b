-- Slots: the frames of a player's stream by their turns, and the list of them in the order in which they came.
use Rattle.std.specs.Prelude.{◌≡◌, ℕ, zero, suc, ◌+◌, ◌*◌, ◌<◌, ◌≤◌, true, List, [], ◌∷◌, ◌++◌, length, map, Option, Some, None, is_some, nat_lt, if◌then◌else◌, slice_index_or}
use Rattle.definitions.specs.declared.world.Move.{Move}
use Rattle.definitions.specs.declared.openings.Digest.{Digest}
use Rattle.definitions.specs.declared.frames.TurnFrame.{TurnFrame}
use Rattle.definitions.specs.declared.frames.TurnFrame.TheVariants.{Commit, Reveal}
use Rattle.definitions.specs.declared.limits.TheConstants.{MOST_TURNS}
use Rattle.definitions.specs.Logs.{player_of}
use Rattle.definitions.specs.Held.{Known}
use Rattle.peer_window.specs.declared.received.Received.{Received}

-- the slot of a frame: two a turn, that of the commitment and then that of the reveal
abbrev pub slot_of : TurnFrame → ℕ
slot_of (Commit p t d) = 2 * t
slot_of (Reveal p t m n) = 2 * t + 1

-- the slot of the turn's other frame
abbrev pub other_slot : TurnFrame → ℕ
other_slot (Commit p t d) = 2 * t + 1
other_slot (Reveal p t m n) = 2 * t

-- what the slot holds; past the last, nothing
abbrev pub slot : List (Option Received) → ℕ → Option Received
slot ss p = slice_index_or ss p None

-- a frame put behind those that came before it
abbrev pub insert : Received → List Received → List Received
insert r [] = r ∷ []
insert r (x ∷ xs) = if nat_lt r.entry x.entry then r ∷ x ∷ xs else x ∷ insert r xs

abbrev pub insert_some : Option Received → List Received → List Received
insert_some None rs = rs
insert_some (Some r) rs = insert r rs

-- what the slots hold, in the order in which it came
abbrev pub in_order : List (Option Received) → List Received
in_order [] = []
in_order (s ∷ ss) = insert_some s (in_order ss)

-- the frames alone
abbrev pub frames_in : List Received → List TurnFrame
frames_in rs = map (λ r. r.frame) rs

-- the digest of a commitment that is held
abbrev pub digest_of_frame : TurnFrame → List Digest
digest_of_frame (Commit p t d) = d ∷ []
digest_of_frame (Reveal p t m n) = []

abbrev pub digest_in : Option Received → List Digest
digest_in None = []
digest_in (Some r) = digest_of_frame r.frame

-- the move of a reveal that is held
abbrev pub move_of_frame : TurnFrame → List Move
move_of_frame (Commit p t d) = []
move_of_frame (Reveal p t m n) = m ∷ []

abbrev pub move_in : Option Received → List Move
move_in None = []
move_in (Some r) = move_of_frame r.frame

-- the digests of the commitments to the first n turns
unfoldable pub digests_to : List (Option Received) → ℕ → List Digest
digests_to ss zero = []
digests_to ss (suc t) = digests_to ss t ++ digest_in (slot ss (2 * t))

-- the moves of the reveals of the first n turns
unfoldable pub moves_to : List (Option Received) → ℕ → List Move
moves_to ss zero = []
moves_to ss (suc t) = moves_to ss t ++ move_in (slot ss (2 * t + 1))

-- what the slots of so many commitments and reveals show
abbrev pub shown : List (Option Received) → (commits resolved : ℕ) → Known
shown ss c u = record { digests = digests_to ss c; moves = moves_to ss u }

-- each slot holds a frame of its own and of the player; so many turns are committed, and so many resolved
pub record AreSlots (player : ℕ) (ss : List (Option Received)) (commits resolved : ℕ) : Type 0 where
  pub own : (p : ℕ) (r : Received) → slot ss p ≡ Some r → (slot_of r.frame ≡ p) × (player_of r.frame ≡ player)
  pub committed : (t : ℕ) → t < commits → is_some (slot ss (2 * t)) ≡ true
  pub revealed : (t : ℕ) → t < resolved → is_some (slot ss (2 * t + 1)) ≡ true
  pub before : resolved ≤ commits
  pub within : 2 * commits ≤ length ss
  pub few : length ss ≤ 2 * MOST_TURNS
