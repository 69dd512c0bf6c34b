-- States: what a logger knows, and when it is ready for a call.
use Rattle.std.specs.Prelude.{◌≡◌, Bool, false, List, map}
use Rattle.std.specs.List.{range_with_len}
use Rattle.definitions.specs.World.{Game, players_of}
use Rattle.rosters.specs.Rosters.{Neighbours}
use Rattle.socket_station.specs.Items.{Item}
use Rattle.watch_rules.specs.declared.phases.WatchPhase.TheVariants.{Running}
use Rattle.watch_rules.specs.Views.{Setting, View, start}
use Rattle.watch_rules.specs.Told.{IsTold}

-- what contracts see of a logger
pub record WatchState : Type 0 where
  pub view : View
  -- memory ran out: after that nothing is promised of what is kept
  pub is_out_of_memory : Bool

-- the view is this one
abbrev pub with_view : View → WatchState → WatchState
with_view v w = record w { view = v }

-- exactly one link for each player of the session, by rising player, and no other
abbrev pub LinksAll : Game → Neighbours → Type 0
LinksAll game r = map (λ l. l.player) r.links ≡ range_with_len 0 (players_of game)

-- what it is given before its first call
abbrev pub setting_for : Game → Neighbours → Setting
setting_for game roster = record { game = game; roster = roster }

-- no call was made
abbrev pub new_watch : Game → Neighbours → WatchState
new_watch game roster = record { view = start (setting_for game roster); is_out_of_memory = false }

-- before a call: the items are a history, which shows what the logger knows; it listens, and
-- memory did not run out
pub record IsWatching (items : List Item) (w : WatchState) : Type 0 where
  pub told : IsTold items w.view
  pub running : w.view.phase ≡ Running
  pub whole : w.is_out_of_memory ≡ false
