-- Views: what a history shows at a moment.
use Rattle.std.specs.Prelude.{ℕ, List, [], map, take}
use Rattle.definitions.specs.declared.frames.TurnFrame.{TurnFrame}
use Rattle.definitions.specs.declared.logs.Entry.{Entry}
use Rattle.definitions.specs.Logs.{made}
use Rattle.definitions.specs.Honest.{made_count}
use Rattle.session_log.specs.Writing.{Writing, fresh}
use Rattle.socket_lines.specs.Seats.{new_seat}
use Rattle.peer_rules.specs.declared.phases.Phase.{Phase}
use Rattle.peer_rules.specs.declared.phases.Phase.TheVariants.{Fresh}
use Rattle.loop_rules.specs.Settings.{Setting, last_place}
use Rattle.loop_rules.specs.Tables.{Table}

pub record View : Type 0 where
  pub setting : Setting
  pub phase : Phase
  -- the entries kept, and how many of them the last sync found
  pub kept : List Entry
  pub synced : ℕ
  -- what writes the next entry
  pub writer : Writing
  pub table : Table

-- no socket was opened, and nothing is known of the other players
abbrev pub first_table : Setting → Table
first_table s = record { lines = []; seats = map (new_seat (last_place s)) s.roster.links; accepted = 0; waiting = [] }

-- before the first item
abbrev pub start : Setting → View
start s = record {
  setting = s;
  phase = Fresh;
  kept = [];
  synced = 0;
  writer = fresh s.game.id s.me;
  table = first_table s;
}

-- the own frames that may be given: those kept before the last sync
abbrev pub safe_frames : View → List TurnFrame
safe_frames v = made (take v.synced v.kept)

abbrev pub made_kept : View → ℕ
made_kept v = made_count v.kept
