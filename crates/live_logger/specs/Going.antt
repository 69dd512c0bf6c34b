-- Going on: what the calls of a logger promise of the history of its station.
use Rattle.std.specs.Prelude.{◌≡◌, ℕ, ◌+◌, List, [], ◌∷◌, ◌++◌}
use Rattle.socket_station.specs.Items.{Item, Polled}
use Rattle.live_logger.specs.States.{WatchState, IsWatching}

-- how many polls an item tells of
abbrev pub poll_count : Item → ℕ
poll_count (Polled list) = 1
poll_count _ = 0

-- how many polls were made
abbrev pub polls_of : List Item → ℕ
polls_of [] = 0
polls_of (item ∷ items) = poll_count item + polls_of items

-- the history grew by items that the rules allow, none of them a poll, and shows what the logger
-- knows, which is ready for a further call
pub record Goes (before after : List Item) (w m : WatchState) : Type 0 where
  pub more : List Item
  pub grown : after ≡ before ++ more
  pub polls : polls_of more ≡ 0
  pub setting : m.view.setting ≡ w.view.setting
  pub watching : IsWatching after m
