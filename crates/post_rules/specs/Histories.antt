-- Histories: each item is allowed after those before it.
use Rattle.std.specs.Prelude.{◌≡◌, ℕ, Bool, true, ◌&&◌, List, [], ◌∷◌, ◌++◌, Option, Some, None, IsTrue}
use Rattle.socket_station.specs.declared.answers.Addr.{Addr}
use Rattle.datagram_post.specs.Items.{Item, Call, LogCall, BindCall, LogBegun, Bound, Failed}
use Rattle.post_rules.specs.Views.{Setting, View, start, anew}
use Rattle.post_rules.specs.After.{after, view_after}
use Rattle.post_rules.specs.Rules.{is_allowed}

-- each of these items is allowed after the view and those before it
abbrev pub are_allowed : View → List Item → Bool
are_allowed v [] = true
are_allowed v (item ∷ items) = is_allowed v item && are_allowed (after v item) items

-- The history grew by items that the rules allow after the one view, and shows the other.
pub record Follows (v w : View) (before now : List Item) : Type 0 where
  pub more : List Item
  pub grown : now ≡ before ++ more
  pub allowed : are_allowed v more ≡ true
  pub shown : view_after v more ≡ w

-- The history of a loop in stretches: that of its beginning, and one for each play. The begin of a
-- play counts as a poll.
abbrev pub are_stretches : View → List (List Item) → Bool
are_stretches v [] = true
are_stretches v (items ∷ more) = are_allowed v items && are_stretches (anew (view_after v items)) more

-- these stretches are the history of a loop that was given this
abbrev pub IsHistory : Setting → List (List Item) → Type 0
IsHistory s stretches = IsTrue (are_stretches (start s) stretches)

-- the name of the log that a call was to begin
abbrev pub name_asked : Call → Option (List ℕ)
name_asked (LogCall name) = Some name
name_asked _ = None

-- the name of the log that an item begins, or fails to begin
abbrev pub log_name : Item → Option (List ℕ)
log_name (LogBegun name) = Some name
log_name (Failed call) = name_asked call
log_name _ = None

-- the address that a call was to bind
abbrev pub addr_asked : Call → Option Addr
addr_asked (BindCall addr) = Some addr
addr_asked _ = None

-- the address that an item binds, or fails to bind
abbrev pub bound_addr : Item → Option Addr
bound_addr (Bound addr) = Some addr
bound_addr (Failed call) = addr_asked call
bound_addr _ = None

-- there is a first item, and it begins the log of this name, or is the failure of that
abbrev pub BeginsLog : (name : List ℕ) → List Item → Type 0
BeginsLog name [] = ⊥
BeginsLog name (item ∷ items) = log_name item ≡ Some name
