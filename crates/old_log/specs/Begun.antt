-- Begun: the log that a player goes on from, by a file, or how the run ends where it can't. A file that isn't there counts as one without bytes
-- here; reading it is a fault of the shelf, which is answered where the file is read.
use Rattle.std.specs.Prelude.{◌≡◌, ℕ, List, [], take, Result, Ok, Err, Option, Some, None, unwrap_or}
use Rattle.session_log.specs.declared.faults.LogFault.{LogFault}
use Rattle.definitions.specs.World.{Game}
use Rattle.definitions.specs.Honest.{IsHonest}
use Rattle.definitions.specs.declared.limits.TheConstants.{LOG_FRONT}
use Rattle.run_frame.specs.Sessions.{game_for}
use Rattle.run_frame.specs.declared.statuses.Status.{Status}
use Rattle.run_frame.specs.declared.statuses.Status.TheVariants.{NoMemory, Usage, BadSession, InputFault, BadLog}
use Rattle.old_log.specs.declared.resuming.Resumed.{Resumed}
use Rattle.old_log.specs.Beginnings.{Beginning}
use Rattle.old_log.specs.Old.{old_entries, dropped_at, old_fault}

-- the bytes of a log's file that are read: one more than a log may have, so that a longer one is told from it
unfoldable pub log_front_of : Option (List ℕ) → List ℕ
log_front_of content = take LOG_FRONT (unwrap_or content [])

-- where no log is named
abbrev pub empty_beginning : Game → Beginning
empty_beginning game = record { game = game; first = []; dropped = None }

-- the log of these bytes, unless the player can't go on from it
abbrev pub old_beginning : Game → List ℕ → Option LogFault → Result Beginning Status
old_beginning game bytes None = Ok (record { game = game; first = old_entries game bytes; dropped = dropped_at game bytes })
old_beginning game bytes (Some f) = Err (BadLog 0 f.at f.why)

-- the log that the player goes on from: that of a file, if one is named
abbrev pub begun : ℕ → Game → Option (Option (List ℕ)) → Result Beginning Status
begun player game None = Ok (empty_beginning game)
begun player game (Some content) = old_beginning game (log_front_of content) (old_fault game player (log_front_of content))

-- the same, where there is a session that the player is one of
abbrev pub with_old : ℕ → Result Game Status → Option (Option (List ℕ)) → Result Beginning Status
with_old player (Err status) old = Err status
with_old player (Ok game) old = begun player game old

-- what the player's run begins with, by its session's file and by the file of its log, if one is named
abbrev pub beginning_for : ℕ → Option (List ℕ) → Option (Option (List ℕ)) → Result Beginning Status
beginning_for player content old = with_old player (game_for player content) old

-- a peer of the player with the log that a run begins with
pub record IsPeerFor (player : ℕ) (due : Result Beginning Status) (r : Resumed) : Type 0 where
  pub due_is : due ≡ Ok (record { game = r.peer.game; first = r.peer.entries; dropped = r.dropped })
  pub player_is : r.peer.me ≡ player
  pub honest : IsHonest r.peer.game player r.peer.entries

-- What a peer begins with is what is due, unless memory was wanting or the shelf failed.
abbrev pub IsStartFor : ℕ → Result Beginning Status → Result Resumed Status → Type 0
IsStartFor player due (Ok r) = IsPeerFor player due r
IsStartFor player due (Err NoMemory) = Unit {0}
IsStartFor player due (Err InputFault) = Unit {0}
IsStartFor player due (Err Usage) = due ≡ Err Usage
IsStartFor player due (Err (BadSession line what)) = due ≡ Err (BadSession line what)
IsStartFor player due (Err (BadLog log at why)) = due ≡ Err (BadLog log at why)
IsStartFor player due (Err status) = ⊥
