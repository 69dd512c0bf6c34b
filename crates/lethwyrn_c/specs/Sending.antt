-- Sending: what is handed out of the log, what of it is stored, and which frame is handed out.
use Rattle.std.specs.Prelude.{◌≡◌, ℕ, ◌+◌, ◌<◌, ◌≤◌, ◌⊎◌, List, ◌++◌, Option, Some, None, length, take, slice_get, option_map, nat_lt, if◌then◌else◌}
use Rattle.commitment.specs.Spelling.{frame_bytes}
use Rattle.definitions.specs.declared.frames.TurnFrame.{TurnFrame}
use Rattle.definitions.specs.Logs.{made}
use Rattle.definitions.specs.Honest.{made_count}
use Rattle.lethwyrn_c.specs.Standings.{Standing, log_front}

-- whether an entry is left
abbrev pub entry_code : Standing → ℕ
entry_code s = if nat_lt s.given (length s.peer.entries) then 0 else 7

-- the next entry was handed out: these are the log's next bytes, and nothing else changed
pub record IsEntryTaken (bytes : List ℕ) (s t : Standing) : Type 0 where
  pub goes_on : t ≡ record s { given = s.given + 1 }
  pub there : s.given < length s.peer.entries
  pub bytes_are : log_front s.peer (s.given + 1) ≡ log_front s.peer s.given ++ bytes

-- So many bytes were named as stored. Then those entries are stored that were before, and those that were handed out and end within the bytes:
-- no others, and the next one doesn't.
pub record IsStoredTo (bytes : ℕ) (s t : Standing) : Type 0 where
  pub same : t ≡ record s { stored = t.stored }
  pub stays : s.stored ≤ t.stored
  pub ends_within : (t.stored ≡ s.stored) ⊎ ((t.stored ≤ s.given) × (length (log_front s.peer t.stored) ≤ bytes))
  pub no_more : (t.stored ≡ s.given) ⊎ (bytes < length (log_front s.peer (t.stored + 1)))

-- the next entry was handed out and ends within the bytes, and is stored now
pub record IsOneStored (bytes : ℕ) (s t : Standing) : Type 0 where
  pub goes_on : t ≡ record s { stored = s.stored + 1 }
  pub there : s.stored < s.given
  pub ends_within : length (log_front s.peer (s.stored + 1)) ≤ bytes

-- so far the next entries were stored that were handed out and end within the bytes
pub record IsStoredSoFar (bytes : ℕ) (s t : Standing) : Type 0 where
  pub same : t ≡ record s { stored = t.stored }
  pub stays : s.stored ≤ t.stored
  pub ends_within : (t.stored ≡ s.stored) ⊎ ((t.stored ≤ s.given) × (length (log_front s.peer t.stored) ≤ bytes))

-- the own frame at the place that is due, the code of handing it out, and the bytes
abbrev pub due_frame : Standing → Option TurnFrame
due_frame s = slice_get (made s.peer.entries) s.sent

abbrev pub frame_code_of : Standing → Option TurnFrame → ℕ
frame_code_of s None = 7
frame_code_of s (Some f) = if nat_lt s.sent (made_count (take s.stored s.peer.entries)) then 0 else 8

abbrev pub frame_code : Standing → ℕ
frame_code s = frame_code_of s (due_frame s)

-- the own frame that is due was handed out, whose entry is among those that are stored, and nothing else changed
pub record IsFrameTaken (bytes : List ℕ) (s t : Standing) : Type 0 where
  pub goes_on : t ≡ record s { sent = s.sent + 1 }
  pub is_stored : s.sent < made_count (take s.stored s.peer.entries)
  pub is_frame : Some bytes ≡ option_map frame_bytes (due_frame s)
