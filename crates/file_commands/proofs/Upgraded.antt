-- Upgraded: what a run of the command to upgrade reads, and when it is refused.
use Rattle.std.proofs.Common.{List, ℕ, ap}
use Rattle.std.specs.Prelude.{Result, Err}
use Rattle.station.specs.Shelves.{ShelfState}
use Rattle.definitions.specs.World.{Game}
use Rattle.run_frame.specs.Law.{ReadsFor}
use Rattle.run_frame.specs.Sessions.{IsDue, OpensSession}
use Rattle.run_frame.specs.declared.statuses.Status.{Status}
use Rattle.run_frame.specs.declared.statuses.Status.TheVariants.{BadSession, InputFault, NoMemory}
use Rattle.run_frame.proofs.Alone.{IsRefused}
use Rattle.run_frame.proofs.SessionRead.{session_calls, session_read}
use Rattle.file_commands.specs.Upgrade.{upgrade_answer}
use Rattle.file_commands.specs.UpgradeLaw.{upgrade_law}

pub session_reads : (h h' : ShelfState) (name : List ℕ) (r : Result Game Status) → OpensSession h h' name r → ReadsFor (upgrade_law name) h h' (session_calls h h')
session_reads h h' name r o = record { reads = session_read h h' name r o; due = tt }

-- what is due for a session that is none
pub unread_refused : (due : Result Game Status) (s : Status) → IsDue due (Err s) → IsRefused (upgrade_answer due) s
unread_refused due NoMemory d = tt
unread_refused due InputFault d = tt
unread_refused due (BadSession line what) d = ap upgrade_answer d
unread_refused due s d = absurd d
