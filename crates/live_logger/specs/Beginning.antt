-- Beginning: what stands after the first call.
use Rattle.std.specs.Prelude.{◌≡◌, false, List, [], ◌∷◌, ◌++◌}
use Rattle.socket_station.specs.declared.answers.Did.{Did}
use Rattle.socket_station.specs.declared.answers.Did.TheVariants.{Done, Failed}
use Rattle.socket_station.specs.Items.{Item, listen_item}
use Rattle.peer_rules.specs.Addresses.{told_addr}
use Rattle.watch_rules.specs.declared.phases.WatchPhase.TheVariants.{PollFault}
use Rattle.watch_rules.specs.Told.{IsTold}
use Rattle.live_logger.specs.States.{WatchState, IsWatching, new_watch}

-- a logger on which no call was made, and a station on which none was
pub record IsNew (items : List Item) (w : WatchState) : Type 0 where
  pub none : items ≡ []
  pub new : w ≡ new_watch w.view.setting.game w.view.setting.roster

-- it listens and is ready for a round, or that failed, and no memory was wanting
abbrev pub StandsBegun : Did → List Item → WatchState → Type 0
StandsBegun Done items m = IsWatching items m
StandsBegun Failed items m = IsTold items m.view × (m.view.phase ≡ PollFault) × (m.is_out_of_memory ≡ false)

-- the call of `listen` was made, and nothing else
pub record Begins (did : Did) (before after : List Item) (w m : WatchState) : Type 0 where
  pub told : after ≡ before ++ listen_item did (told_addr w.view.setting.roster.me) ∷ []
  pub setting : m.view.setting ≡ w.view.setting
  pub stands : StandsBegun did after m
