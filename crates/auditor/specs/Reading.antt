-- Reading: what logs show of a player's turn, with what they show before it and behind it.
use Rattle.std.specs.Prelude.{◌+◌, ℕ, List}
use Rattle.definitions.specs.declared.logs.Entry.{Entry}
use Rattle.definitions.specs.World.{Game}
use Rattle.frame_index.specs.Heads.{Stand, front_of}
use Rattle.frame_index.specs.Keeps.{Keeps}
use Rattle.auditor.specs.declared.agreed.Readings.{Readings}
use Rattle.auditor.specs.declared.reading.Reading.{Reading}
use Rattle.auditor.specs.Agreed.{AreOwned}
use Rattle.auditor.specs.Audits.{AuditState, IsAuditOf, crossed_logs}

-- the reading is of the turn of the player in these logs
pub record IsReadTurn (game : Game) (q : ℕ) (logs : List (List Entry)) (t : ℕ) (r : Reading) : Type 0 where
  pub kept : Keeps game q t logs r.seen.items
  pub before : Stand game q logs (front_of game t) r.before
  pub after : Stand game q logs (front_of game (t + 1)) r.after

-- the auditor stands for the logs, each of which is its owner's
pub record IsReadable (a : AuditState) (logs : List (List Entry)) : Type 0 where
  pub audit : IsAuditOf a.session logs a
  pub owned : AreOwned a.session a.owners logs

-- the frames that logs got and those that their owners made were read up to the turn
pub record AreUpTo (a : AuditState) (q : ℕ) (logs : List (List Entry)) (t : ℕ) (r : Readings) : Type 0 where
  pub got : Stand a.session q logs (front_of a.session t) r.got.after
  pub made : Stand a.session q (crossed_logs logs) (front_of a.session t) r.made.after
