-- States: what a depositor is given before its first call.
use Rattle.std.specs.Prelude.{ℕ, List}
use Rattle.definitions.specs.World.{Game}
use Rattle.rosters.specs.declared.logger.Logger.{Logger}
use Rattle.peer_rules.specs.Addresses.{told_addr}
use Rattle.deposit_rules.specs.Views.{Setting}

-- the session's id, the player, and the logger
abbrev pub setting_by : (id : List ℕ) → (player : ℕ) → Logger → Setting
setting_by id player logger = record { id = id; player = player; addr = told_addr logger.addr; shows = logger.shows }

-- the same by the session
abbrev pub setting_for : Logger → Game → (player : ℕ) → Setting
setting_for logger game player = setting_by game.id player logger
