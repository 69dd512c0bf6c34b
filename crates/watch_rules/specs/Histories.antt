-- Histories: each item is allowed after those before it.
use Rattle.std.specs.Prelude.{Bool, true, ◌&&◌, List, [], ◌∷◌, ◌++◌, IsTrue}
use Rattle.socket_station.specs.Items.{Item}
use Rattle.socket_station.specs.Standings.{OpensNew}
use Rattle.watch_rules.specs.Views.{Setting, View, start}
use Rattle.watch_rules.specs.After.{after}
use Rattle.watch_rules.specs.Rules.{IsAllowed, is_allowed}

-- the items are allowed one after the other
abbrev pub are_allowed : View → List Item → Bool
are_allowed v [] = true
are_allowed v (item ∷ items) = is_allowed v item && are_allowed (after v item) items

-- a history up to some moment
abbrev pub IsHistory : Setting → List Item → Type 0
IsHistory s items = IsTrue (are_allowed (start s) items)

-- the items come one after the other from a view, each allowed, and the sockets that they open are
-- new
abbrev pub AreTold : View → (before items : List Item) → Type 0
AreTold v before [] = Unit {0}
AreTold v before (item ∷ items) = OpensNew before item × IsAllowed v item × AreTold (after v item) (before ++ item ∷ []) items
