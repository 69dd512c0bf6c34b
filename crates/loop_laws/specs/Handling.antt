-- Handling: what becomes of the frames that one piece of bytes brings.
use Rattle.std.specs.Prelude.{◌≡◌, ℕ, ◌==◌, not, List, [], ◌∷◌, ◌++◌, if◌then◌else◌}
use Rattle.definitions.specs.declared.frames.TurnFrame.{TurnFrame}
use Rattle.definitions.specs.declared.logs.Entry.{Entry}
use Rattle.definitions.specs.declared.logs.Entry.TheVariants.{Chose, Made, Got}
use Rattle.definitions.specs.World.{Game}
use Rattle.definitions.specs.Logs.{player_of}
use Rattle.definitions.specs.Findings.{is_clean}
use Rattle.definitions.specs.Answers.{is_new}
use Rattle.wire_frames.specs.declared.frames.Frame.{Frame}
use Rattle.wire_frames.specs.declared.frames.Frame.TheVariants.{Hello, Turn, Want}
use Rattle.socket_station.specs.Items.{Item, PollCall, Polled, Took, Failed}

-- The frames of turns that come on a player's socket, up to the first frame that may not come
-- there: a further HELLO, or a frame of another player.
abbrev pub turns_of : (q : ℕ) → List Frame → List TurnFrame
turns_of q [] = []
turns_of q (Hello id p pass next ∷ more) = []
turns_of q (Turn f ∷ more) = if player_of f == q then f ∷ turns_of q more else []
turns_of q (Want place ∷ more) = turns_of q more

-- these frames from the first one on that is new to the log; none where the log has a finding
abbrev pub from_new : Game → (me q : ℕ) → (log : List Entry) → List TurnFrame → List TurnFrame
from_new game me q log [] = []
from_new game me q log (f ∷ more) =
    if not (is_clean game log) then [] else if is_new game me log q f then f ∷ more else from_new game me q log more

-- The entries are added to the log while these frames of the player are handled in their order. A
-- frame that is not new to the log, when it is its turn, is passed over; one that is new is the
-- next that is logged as received. Own entries may come between, and no frame is left in the end.
abbrev pub Handles : Game → (me q : ℕ) → (log : List Entry) → List TurnFrame →
    (added : List Entry) → Type 0
Handles game me q log frames [] = from_new game me q log frames ≡ []
Handles game me q log frames (Chose t m n ∷ added) = Handles game me q (log ++ Chose t m n ∷ []) (from_new game me q log frames) added
Handles game me q log frames (Made f ∷ added) = Handles game me q (log ++ Made f ∷ []) (from_new game me q log frames) added
Handles game me q log frames (Got p f ∷ added) =
    (rest : List TurnFrame) × (p ≡ q) × (from_new game me q log frames ≡ f ∷ rest) ×
    Handles game me q (log ++ Got p f ∷ []) rest added

-- further bytes are taken, or a poll is made, or fails
abbrev pub GoesOn : Item → Type 0
GoesOn (Took n bytes) = Unit {0}
GoesOn (Polled list) = Unit {0}
GoesOn (Failed PollCall) = Unit {0}
GoesOn _ = ⊥
