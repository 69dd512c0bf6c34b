-- Laws: what holds of every history of a depositor.
use Rattle.std.specs.Prelude.{◌≡◌, ◌⊎◌, ℕ, List, [], ◌∷◌, ◌++◌, Some, None, drop, IsTrue}
use Rattle.wire_frames.specs.Spelling.{spelling}
use Rattle.socket_station.specs.Moved.{given_in}
use Rattle.socket_station.specs.Standings.{OpensNew}
use Rattle.socket_station.specs.declared.answers.Ready.{Ready}
use Rattle.socket_station.specs.Items.{Item, PollCall, Polled, Took, Failed}
use Rattle.deposit_rules.specs.Views.{Setting, View, hello, start}
use Rattle.deposit_rules.specs.After.{after, view_of}
use Rattle.deposit_rules.specs.Rules.{IsAllowed, is_licensed}
use Rattle.deposit_rules.specs.Histories.{IsHistory}

-- what was told up to some moment is a history
abbrev pub PrefixesAreHistories : Type 0
PrefixesAreHistories = (log : List ℕ) (s : Setting) (items more : List Item) → IsHistory log s (items ++ more) → IsHistory log s items

-- each item is one that may come after those before it
abbrev pub ItemsAreAllowed : Type 0
ItemsAreAllowed = (log : List ℕ) (s : Setting) (items more : List Item) (item : Item) → IsHistory log s (items ++ item ∷ more) → IsAllowed log (view_of s items) item

-- such an item makes one more history
abbrev pub AllowedItemsAreAdded : Type 0
AllowedItemsAreAdded = (log : List ℕ) (s : Setting) (items : List Item) (item : Item) → IsHistory log s items → IsAllowed log (view_of s items) item → IsHistory log s (items ++ item ∷ [])

-- each poll that is done is licensed
abbrev pub PollsAreLicensed : Type 0
PollsAreLicensed = (log : List ℕ) (s : Setting) (items more : List Item) (list : List Ready) → IsHistory log s (items ++ Polled list ∷ more) → IsTrue (is_licensed log (view_of s items))

-- the same of a poll that fails
abbrev pub FailedPollsAreLicensed : Type 0
FailedPollsAreLicensed = (log : List ℕ) (s : Setting) (items more : List Item) → IsHistory log s (items ++ Failed PollCall ∷ more) → IsTrue (is_licensed log (view_of s items))

-- a WANT of this place came on the socket: after some piece it is the first one
pub record IsWanted (s : Setting) (socket place : ℕ) (items : List Item) : Type 0 where
  pub before : List Item
  pub piece : List ℕ
  pub more : List Item
  pub stands : items ≡ before ++ Took socket piece ∷ more
  pub none : (view_of s before).line.cursor ≡ None
  pub first : (view_of s (before ++ Took socket piece ∷ [])).line.cursor ≡ Some place

-- the bytes are the first ones of the HELLO
abbrev pub BeginsHello : Setting → List ℕ → Type 0
BeginsHello s bytes = (rest : List ℕ) × (bytes ++ rest ≡ spelling (hello s))

-- the bytes are the HELLO, and then the first ones of the log from the place wanted on
pub record IsHelloAndLog (log : List ℕ) (s : Setting) (socket : ℕ) (items : List Item) (bytes : List ℕ) : Type 0 where
  pub place : ℕ
  pub part : List ℕ
  pub rest : List ℕ
  pub wanted : IsWanted s socket place items
  pub split : bytes ≡ spelling (hello s) ++ part
  pub begins : part ++ rest ≡ drop place log

-- the bytes are the first ones of the HELLO, or all of it and the first ones of the log
abbrev pub BeginsHelloAndLog : (log : List ℕ) → Setting → (socket : ℕ) → List Item → List ℕ → Type 0
BeginsHelloAndLog log s socket items bytes = BeginsHello s bytes ⊎ IsHelloAndLog log s socket items bytes

-- the items come one after the other from a view, each allowed, and the sockets that they open are
-- new
abbrev pub AreTold : (log : List ℕ) → View → (before items : List Item) → Type 0
AreTold log v before [] = Unit {0}
AreTold log v before (item ∷ items) = OpensNew before item × IsAllowed log v item × AreTold log (after v item) (before ++ item ∷ []) items

-- what is given on a socket in all are the first bytes of the HELLO and of the log from the place
-- wanted on, whatever the station answered
abbrev pub GivenIsHelloAndLog : Type 0
GivenIsHelloAndLog = (log : List ℕ) (s : Setting) (items : List Item) (socket : ℕ) → AreTold log (start s) [] items → BeginsHelloAndLog log s socket items (given_in socket items)
