-- Standing: what holds of every peer.
use Rattle.std.specs.Prelude.{◌+◌, ◌*◌, ◌<◌, ◌≤◌, length}
use Rattle.definitions.specs.World.{players_of}
use Rattle.definitions.specs.Logs.{chosen}
use Rattle.definitions.specs.Held.{held_count}
use Rattle.definitions.specs.Honest.{IsHonest, made_count}
use Rattle.grid_world.specs.Sessions.{IsSession}
use Rattle.peer_core.specs.Views.{PeerState}

-- the log is honest, and its player one of the session's
pub record IsStanding (p : PeerState) : Type 0 where
  pub session : IsSession p.game
  pub player : p.me < players_of p.game
  pub honest : IsHonest p.game p.me p.entries
  pub made_few : made_count p.entries ≤ 2 * p.game.turns
  pub chosen_few : length (chosen p.me p.entries) ≤ p.game.turns
  -- one turn at most is chosen and not committed
  pub chosen_next : length (chosen p.me p.entries) ≤ held_count p.game p.me p.entries p.me + 1
