-- Going on: what the calls of a depositor promise of the history of its station.
use Rattle.std.specs.Prelude.{◌≡◌, ℕ, ◌+◌, List, [], ◌∷◌, ◌++◌}
use Rattle.socket_station.specs.Items.{Item, Polled}
use Rattle.deposit_rules.specs.Views.{View}
use Rattle.live_deposit.specs.Told.{IsTold, Stands}

-- how many polls an item tells of
abbrev pub poll_count : Item → ℕ
poll_count (Polled list) = 1
poll_count _ = 0

-- how many polls were made
abbrev pub polls_of : List Item → ℕ
polls_of [] = 0
polls_of (item ∷ items) = poll_count item + polls_of items

-- the history grew by these items, so many of them polls, and the depositor is as it was but for
-- what it knows, which stands
pub record Grew (count : ℕ) (before after more : List Item) (v w : View) : Type 0 where
  pub grown : after ≡ before ++ more
  pub polls : polls_of more ≡ count
  pub setting : w.setting ≡ v.setting
  pub stands : Stands after w

-- the same by calls that no log decides: whatever the log is for which the history is one by the
-- rules, it is one again
pub record GoesBy (count : ℕ) (before after : List Item) (v w : View) : Type 0 where
  pub more : List Item
  pub grew : Grew count before after more v w
  pub told : (log : List ℕ) → IsTold log before v → IsTold log after w

-- none of them a poll
abbrev pub Goes : (before after : List Item) → (v w : View) → Type 0
Goes before after v w = GoesBy 0 before after v w
