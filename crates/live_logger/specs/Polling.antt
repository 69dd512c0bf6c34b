-- Polling: what stands after polls and rounds.
use Rattle.std.specs.Prelude.{◌≡◌, ℕ, Bool, true, false, List, [], ◌∷◌, ◌++◌, if◌then◌else◌}
use Rattle.socket_station.specs.declared.answers.Ready.{Ready}
use Rattle.socket_station.specs.Items.{Item, Failed, PollCall, Polled}
use Rattle.log_books.specs.Books.{is_agreed}
use Rattle.watch_rules.specs.declared.phases.WatchPhase.TheVariants as P
use Rattle.watch_rules.specs.Views.{View, start}
use Rattle.watch_rules.specs.Licence.{is_licensed}
use Rattle.watch_rules.specs.Told.{IsTold}
use Rattle.watch_rules.specs.Histories.{AreTold}
use Rattle.live_logger.specs.declared.polling.WatchRound.{WatchRound}
use Rattle.live_logger.specs.declared.polling.WatchRound.TheVariants.{On, Agreed, PollFault, NoMemory}
use Rattle.live_logger.specs.States.{WatchState, IsWatching}
use Rattle.live_logger.specs.Going.{Goes, polls_of}

-- every turn of every player is agreed by what came
abbrev pub all_agreed : View → Bool
all_agreed v = is_agreed v.setting.game v.streams

-- the history grew by items that the rules allow, so many of them polls, and shows what the logger
-- knows
pub record GoesBy (count : ℕ) (before after : List Item) (w m : WatchState) : Type 0 where
  pub more : List Item
  pub grown : after ≡ before ++ more
  pub polls : polls_of more ≡ count
  pub setting : m.view.setting ≡ w.view.setting
  pub told : IsTold after m.view
  pub whole : m.is_out_of_memory ≡ false

-- the last item is a poll
abbrev pub LastIsPoll : List Item → Type 0
LastIsPoll items = (before : List Item) × (list : List Ready) × (items ≡ before ++ Polled list ∷ [])

-- the last item is a poll that failed
abbrev pub LastPollFailed : List Item → Type 0
LastPollFailed items = (before : List Item) × (items ≡ before ++ Failed PollCall ∷ [])

-- one poll was made, or failed; nothing came by it
pub record Polls (done : Bool) (before after : List Item) (w m : WatchState) : Type 0 where
  pub goes : GoesBy (if done then 1 else 0) before after w m
  pub streams : m.view.streams ≡ w.view.streams
  pub watching : done ≡ true → IsWatching after m
  pub fault : done ≡ false → m.view.phase ≡ P.PollFault
  pub made : done ≡ true → LastIsPoll after
  pub failed : done ≡ false → LastPollFailed after

-- How a round ended. A poll was made at its end, which is licensed since the history allows it,
-- and not every turn is agreed; or each is, all that is there was handled, and none was made; or a
-- poll failed at its end; or memory ran out for what came, and what was told so far is told by the
-- rules all the same.
abbrev pub Rounds : WatchRound → (before after : List Item) → (w m : WatchState) → Type 0
Rounds On before after w m = GoesBy 1 before after w m × IsWatching after m × (all_agreed m.view ≡ false) × LastIsPoll after
Rounds Agreed before after w m = Goes before after w m × (all_agreed m.view ≡ true) × (is_licensed m.view ≡ true)
Rounds PollFault before after w m = GoesBy 0 before after w m × (m.view.phase ≡ P.PollFault) × (all_agreed m.view ≡ false) × LastPollFailed after
Rounds NoMemory before after w m = AreTold (start w.view.setting) [] after × (m.is_out_of_memory ≡ true)
