-- Histories: each item is allowed after those before it.
use Rattle.std.specs.Prelude.{ℕ, Bool, true, ◌&&◌, List, [], ◌∷◌, IsTrue}
use Rattle.socket_station.specs.Items.{Item}
use Rattle.deposit_rules.specs.Views.{Setting, View, start}
use Rattle.deposit_rules.specs.After.{after}
use Rattle.deposit_rules.specs.Rules.{is_allowed}

-- the items are allowed one after the other
abbrev pub are_allowed : (log : List ℕ) → View → List Item → Bool
are_allowed log v [] = true
are_allowed log v (item ∷ items) = is_allowed log v item && are_allowed log (after v item) items

-- a history up to some moment, of a depositor of a log of these bytes
abbrev pub IsHistory : (log : List ℕ) → Setting → List Item → Type 0
IsHistory log s items = IsTrue (are_allowed log (start s) items)
