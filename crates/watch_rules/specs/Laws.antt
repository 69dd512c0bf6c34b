-- Laws: what holds of every history of a logger.
use Rattle.std.specs.Prelude.{◌≡◌, ◌⊎◌, ℕ, List, [], ◌∷◌, ◌++◌, Option, Some, None, slice_get, true, IsTrue}
use Rattle.wire_frames.specs.declared.frames.Frame.TheVariants.{Want}
use Rattle.wire_frames.specs.Spelling.{spelling}
use Rattle.socket_lines.specs.declared.line.Line.{Line}
use Rattle.loop_rules.specs.Rules.{is_front}
use Rattle.socket_station.specs.Moved.{given_in}
use Rattle.socket_list.specs.Sockets.{line_of}
use Rattle.socket_station.specs.declared.answers.Ready.{Ready}
use Rattle.socket_station.specs.Items.{Item, PollCall, Polled, Took, Gave, Failed}
use Rattle.socket_station.specs.Standings.{OpensNew}
use Rattle.log_streams.specs.Streams.{count_at}
use Rattle.watch_rules.specs.Views.{Setting, View, start}
use Rattle.watch_rules.specs.After.{after, view_of}
use Rattle.watch_rules.specs.Licence.{IsLicensed}
use Rattle.watch_rules.specs.Rules.{IsAllowed}
use Rattle.watch_rules.specs.Histories.{AreTold, IsHistory}
use Rattle.watch_rules.specs.Told.{IsTold}

-- what was told up to some moment is a history
abbrev pub PrefixesAreHistories : Type 0
PrefixesAreHistories = (s : Setting) (items more : List Item) → IsHistory s (items ++ more) → IsHistory s items

-- each item is one that may come after those before it
abbrev pub ItemsAreAllowed : Type 0
ItemsAreAllowed = (s : Setting) (items more : List Item) (item : Item) → IsHistory s (items ++ item ∷ more) → IsAllowed (view_of s items) item

-- what is told goes on by an item that is allowed, and of whose sockets none was used before
abbrev pub ToldGoesOn : Type 0
ToldGoesOn = (items : List Item) (v : View) (item : Item) → IsTold items v → OpensNew items item → IsAllowed v item → IsTold (items ++ item ∷ []) (after v item)

-- each poll that is done is licensed
abbrev pub PollsAreLicensed : Type 0
PollsAreLicensed = (s : Setting) (items more : List Item) (list : List Ready) → IsHistory s (items ++ Polled list ∷ more) → IsLicensed (view_of s items)

-- the same of a poll that fails
abbrev pub FailedPollsAreLicensed : Type 0
FailedPollsAreLicensed = (s : Setting) (items more : List Item) → IsHistory s (items ++ Failed PollCall ∷ more) → IsLicensed (view_of s items)

-- bytes are given on a socket that was opened, and they are the first ones of those that are due
-- on it
abbrev pub GivenIsDue : Type 0
GivenIsDue = (s : Setting) (items more : List Item) (socket : ℕ) (bytes : List ℕ) → IsHistory s (items ++ Gave socket bytes ∷ more) →
    (l : Line) × (line_of (view_of s items).sockets socket ≡ Some l) × IsTrue (is_front bytes l.unsent)

-- the name of a line, if there is one that has a name
abbrev pub name_by : Option Line → Option ℕ
name_by None = None
name_by (Some l) = l.name

-- the name of a socket
abbrev pub name_in : View → (socket : ℕ) → Option ℕ
name_in v s = name_by (line_of v.sockets s)

-- a piece named the socket for the player, when so many bytes of the player's log had come
pub record IsNamedAt (s : Setting) (socket player place : ℕ) (items : List Item) : Type 0 where
  pub before : List Item
  pub piece : List ℕ
  pub more : List Item
  pub stands : items ≡ before ++ Took socket piece ∷ more
  pub none : name_in (view_of s before) socket ≡ None
  pub named : name_in (view_of s (before ++ Took socket piece ∷ [])) socket ≡ Some player
  pub place_is : place ≡ count_at (slice_get (view_of s before).streams player)

-- the bytes are the first ones of the WANT that answered it
pub record IsWantOf (s : Setting) (socket : ℕ) (items : List Item) (bytes : List ℕ) : Type 0 where
  pub player : ℕ
  pub place : ℕ
  pub rest : List ℕ
  pub named : IsNamedAt s socket player place items
  pub begins : bytes ++ rest ≡ spelling (Want place)

-- there are none, or they begin that one WANT
abbrev pub BeginsWant : Setting → (socket : ℕ) → List Item → List ℕ → Type 0
BeginsWant s socket items bytes = (bytes ≡ []) ⊎ IsWantOf s socket items bytes

-- what is given on a socket in all begins one WANT, of the place that its HELLO found, whatever
-- the station answered
abbrev pub GivenIsOneWant : Type 0
GivenIsOneWant = (s : Setting) (items : List Item) (socket : ℕ) → AreTold (start s) [] items → BeginsWant s socket items (given_in socket items)
