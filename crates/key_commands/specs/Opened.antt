-- Opened: what the commands go by, read from their files one after the other, or how a run ends where there is
-- nothing to go by.
use Rattle.std.specs.Prelude.{ℕ, zero, suc, List, Option, Result, Ok, Err, Some, None}
use Rattle.definitions.specs.declared.frames.TurnFrame.{TurnFrame}
use Rattle.definitions.specs.World.{Game}
use Rattle.definitions.specs.Logs as L
use Rattle.session_log.specs.declared.faults.LogFault.{LogFault}
use Rattle.line_io.specs.Files.{Contents, behind_first, content}
use Rattle.old_log.specs.Begun.{log_front_of}
use Rattle.old_log.specs.Old.{old_entries, whole_fault}
use Rattle.run_frame.specs.Opening.{Found}
use Rattle.run_frame.specs.Sessions.{game_for}
use Rattle.run_frame.specs.declared.statuses.Status.{Status}
use Rattle.run_frame.specs.declared.statuses.Status.TheVariants.{BadLog}
use Rattle.key_commands.specs.Seeds.{seed_in}
use Rattle.key_commands.specs.Words.{Keying, Sealing}

-- ---- a session and a seed

-- what keys come from
pub record Keyed : Type 0 where
  pub game : Game
  pub seed : List ℕ

-- the two, where there is a seed
abbrev pub with_seed : Game → Result (List ℕ) Status → Result Keyed Status
with_seed game (Err status) = Err status
with_seed game (Ok seed) = Ok (record { game = game; seed = seed })

-- the same, where there is a session of the player; the seed's file is the first of these
abbrev pub after_session : Result Game Status → Contents → Result Keyed Status
after_session (Err status) contents = Err status
after_session (Ok game) contents = with_seed game (seed_in (content contents 0))

-- what the keys come from, by the files of the session and of the seed: the session is asked first, then the
-- player, and then the seed
abbrev pub keyed_for : Keying → Contents → Result Keyed Status
keyed_for k contents = after_session (game_for k.player (content contents 0)) (behind_first contents)

-- ---- and a log

-- the frames that the player of a log made, or how the run ends where the log isn't whole and the player's own
abbrev pub made_unless : Game → List ℕ → Option LogFault → Result (List TurnFrame) Status
made_unless game bytes None = Ok (L.made (old_entries game bytes))
made_unless game bytes (Some fault) = Err (BadLog 0 fault.at fault.why)

-- those of the log of a file
abbrev pub made_in : Game → (player : ℕ) → Option (List ℕ) → Result (List TurnFrame) Status
made_in game player content = made_unless game (log_front_of content) (whole_fault game player (log_front_of content))

-- what is sealed, and what the keys come from
pub record Sealed : Type 0 where
  pub keys : Keyed
  pub made : List TurnFrame

-- the two, where there is a log
abbrev pub with_made : Keyed → Result (List TurnFrame) Status → Result Sealed Status
with_made keys (Err status) = Err status
with_made keys (Ok made) = Ok (record { keys = keys; made = made })

-- the same, where there is a seed; the log's file is the first of these
abbrev pub after_seed : Game → (player : ℕ) → Result (List ℕ) Status → Contents → Result Sealed Status
after_seed game player (Err status) contents = Err status
after_seed game player (Ok seed) contents = with_made (record { game = game; seed = seed }) (made_in game player (content contents 0))

-- the same, where there is a session of the player; the seed's file is the first of these
abbrev pub seed_then : Game → (player : ℕ) → Contents → Result Sealed Status
seed_then game player contents = after_seed game player (seed_in (content contents 0)) (behind_first contents)

abbrev pub session_then : Result Game Status → (player : ℕ) → Contents → Result Sealed Status
session_then (Err status) player contents = Err status
session_then (Ok game) player contents = seed_then game player contents

-- what is sealed, by the files: the session is asked first, then the player, the seed, and the log
abbrev pub sealed_for : Sealing → Contents → Result Sealed Status
sealed_for s contents = session_then (game_for s.keys.player (content contents 0)) s.keys.player (behind_first contents)

-- ---- when a file is read: only where those before it have what is asked of them

abbrev pub MayReadSeed : (player : ℕ) → Contents → ℕ → Type 0
MayReadSeed player contents zero = Unit {0}
MayReadSeed player contents (suc k) = Found (game_for player (content contents 0))

abbrev pub MayReadLog : Contents → ℕ → Type 0
MayReadLog contents zero = Unit {0}
MayReadLog contents (suc k) = Found (seed_in (content contents 0))

abbrev pub MayReadEach : (player : ℕ) → Contents → ℕ → Type 0
MayReadEach player contents zero = Unit {0}
MayReadEach player contents (suc k) = Found (game_for player (content contents 0)) × MayReadLog (behind_first contents) k
