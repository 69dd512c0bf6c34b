-- Receiving: what stands after the calls that receive.
use Rattle.std.specs.Prelude.{◌≡◌, ◌⊎◌, ℕ, Bool, true, false, ◌&&◌, List, [], ◌∷◌, ◌++◌, Option, Some, None}
use Rattle.definitions.specs.Findings.{is_clean}
use Rattle.definitions.specs.Advance.{next_made}
use Rattle.letters.specs.Reading.{letter_in}
use Rattle.datagram_post.specs.Items.{Item, ReceiveCall, Took, ReceiveNotYet, Failed}
use Rattle.own_moves.specs.declared.making.Moves.{Moves}
use Rattle.own_moves.specs.Choices.{Chooser, ChoosesBy}
use Rattle.own_moves.specs.Making.{MakesAll, StandsAs, are_legal, is_refused}
use Rattle.peer_rules.specs.declared.arrivals.Arrival.{Arrival}
use Rattle.post_rules.specs.Views.{Settling, settling_after}
use Rattle.post_rules.specs.Histories.{Follows}
use Rattle.datagram_loop.specs.States.{LoopState, view_of, hears}
use Rattle.datagram_loop.specs.Pending.{IsPending}

-- own entries are added to the peer's log, and nothing else changes
pub record MakesMoves (by to : Chooser) (made : Moves) (l m : LoopState) : Type 0 where
  pub makes : MakesAll by to made l.peer m.peer
  pub same : m ≡ record l { peer = m.peer }

-- a receive brought nothing
abbrev pub BringsNone : Item → Type 0
BringsNone item = (item ≡ ReceiveNotYet) ⊎ (item ≡ Failed ReceiveCall)

-- a datagram came, and is heard or dropped; or none came
abbrev pub ReceivesOne : (came : Bool) → (before after : List Item) → (l m : LoopState) → Type 0
ReceivesOne true before after l m = (bytes : List ℕ) × (after ≡ before ++ Took bytes ∷ []) × (m ≡ hears (letter_in bytes) l)
ReceivesOne false before after l m = (item : Item) × BringsNone item × (after ≡ before ++ item ∷ []) × (m ≡ l)

-- a datagram came, is heard or dropped, and own entries are added; or none came
pub record StepsOn (by to : Chooser) (made : Moves) (before after : List Item) (l m : LoopState) : Type 0 where
  pub mid : LoopState
  pub received : ReceivesOne true before after l mid
  pub made_so : MakesMoves by to made mid m

-- one receive: it says nothing where no datagram came
abbrev pub Steps : (by to : Chooser) → Option Moves → (before after : List Item) → (l m : LoopState) → Type 0
Steps by to None before after l m = ReceivesOne false before after l m × (to ≡ by)
Steps by to (Some made) before after l m = StepsOn by to made before after l m

-- receiving goes on: no own move was refused, and the log has no finding
abbrev pub goes_on : Moves → LoopState → Bool
goes_on made m = are_legal made && is_clean m.peer.game m.peer.entries

-- so many datagrams were taken, after so many polls, and perhaps no more are there
abbrev pub taking : (polls taken : ℕ) → (is_received : Bool) → Settling
taking polls taken is_received = record { polls = polls; taken = taken; is_received = is_received; is_stored = false; sent = 0 }

-- All datagrams were received that were there, or enough, or receiving ended early. Then no own
-- frame is left to be made, and no move to be chosen unless it is refused.
pub record Receives (by to : Chooser) (made : Moves) (before after : List Item) (l m : LoopState) : Type 0 where
  pub waiting : List Arrival
  pub taken : ℕ
  pub is_received : Bool
  pub follows : (polls : ℕ) → Follows (view_of [] (settling_after polls) l) (view_of waiting (taking polls taken is_received) m) before after
  pub pending : IsPending m waiting
  pub same : m ≡ record l { peer = m.peer; partners = m.partners; drops = m.drops }
  pub game : (m.peer.game ≡ l.peer.game) × (m.peer.me ≡ l.peer.me)
  pub choices : ChoosesBy l.peer.game l.peer.me by to (is_refused made) l.peer.entries m.peer.entries
  pub still : next_made m.peer.game m.peer.me m.peer.entries ≡ None
  pub stands : StandsAs by.plan made m.peer
  pub whole : goes_on made m ≡ true → is_received ≡ true
