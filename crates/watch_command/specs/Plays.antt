-- Plays: what is made of the station and of the output by what was opened.
use Rattle.std.specs.Prelude.{◌≡◌, ◌⊎◌, ℕ, true, false, List}
use Rattle.station.specs.Sinks.{SinkState}
use Rattle.socket_station.specs.Items.{Item}
use Rattle.watch_rules.specs.After.{view_of}
use Rattle.live_logger.specs.States.{WatchState, setting_for}
use Rattle.run_frame.specs.Frame.{Ran}
use Rattle.run_frame.specs.declared.statuses.Status.{Status}
use Rattle.run_frame.specs.declared.statuses.Status.TheVariants.{NoMemory}
use Rattle.watch_command.specs.declared.opening.WatchSource.{WatchSource}
use Rattle.watch_command.specs.declared.watching.Watched.{Watched}
use Rattle.watch_command.specs.declared.watching.Watched.TheVariants as W
use Rattle.watch_command.specs.Watches.{StandsWatched, watch_answer}

-- where what came is printed, the logger knows all of it
abbrev pub IsKnown : Watched → WatchState → Type 0
IsKnown W.Agreed w = w.is_out_of_memory ≡ false
IsKnown W.Spent w = w.is_out_of_memory ≡ false
IsKnown end w = Unit {0}

-- Memory was wanting, and no call was made and nothing written.
pub record MadeNoCall (items items' : List Item) (before now : SinkState) (status : Status)
    : Type 0 where
  pub lacks : status ≡ NoMemory
  pub calls : items' ≡ items
  pub written : now ≡ before

-- A logger of what was opened came to its end, which was written.
pub record PlaysLogger (s : WatchSource) (polls : ℕ) (items : List Item) (before now : SinkState)
    (status : Status) : Type 0 where
  pub result : Watched
  pub last : WatchState
  pub stands : StandsWatched (setting_for s.session s.roster) polls result items last
  pub written : Ran before now (watch_answer s.session
      (view_of (setting_for s.session s.roster) items).streams result) true ⊥ ⊥ status

-- what a run makes of them, on a station of which no call was made
abbrev pub PlaysWatch : WatchSource → (polls : ℕ) → (items items' : List Item) →
    (before now : SinkState) → Status → Type 0
PlaysWatch s polls items items' before now status =
    MadeNoCall items items' before now status ⊎ PlaysLogger s polls items' before now status
