-- Views: what a history shows at a moment.
use Rattle.std.specs.Prelude.{ℕ, List, []}
use Rattle.definitions.specs.World.{Game}
use Rattle.rosters.specs.Rosters.{Neighbours}
use Rattle.socket_list.specs.Sockets.{Sockets}
use Rattle.watch_rules.specs.declared.phases.WatchPhase.{WatchPhase}
use Rattle.watch_rules.specs.declared.phases.WatchPhase.TheVariants.{Fresh}
use Rattle.log_streams.specs.Streams.{Stream, no_streams}

-- what a logger is given before its first call: the session, where it listens, and each player's
-- link, by number
pub record Setting : Type 0 where
  pub game : Game
  pub roster : Neighbours

-- what the history shows
pub record View : Type 0 where
  pub setting : Setting
  pub phase : WatchPhase
  pub sockets : Sockets
  -- what came of each player's log, by number
  pub streams : List Stream

-- before the first item
abbrev pub start : Setting → View
start s = record {
  setting = s;
  phase = Fresh;
  sockets = record { lines = []; accepted = 0 };
  streams = no_streams s.game;
}
