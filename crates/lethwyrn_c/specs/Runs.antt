-- Runs: what a program in C has by the calls that it made since a peer was made or went on from a log.
use Rattle.std.specs.Prelude.{◌≡◌, ℕ, ◌+◌, ◌≤◌, max, List, [], ◌++◌, Some, length, slice_get}
use Rattle.commitment.specs.Spelling.{frame_bytes}
use Rattle.definitions.specs.declared.frames.TurnFrame.{TurnFrame}
use Rattle.definitions.specs.declared.logs.Entry.TheVariants.{Made}
use Rattle.definitions.specs.declared.world.Move.{Move}
use Rattle.definitions.specs.Honest.{IsHonest}
use Rattle.grid_world.specs.Sessions.{IsSession}
use Rattle.lethwyrn_c.specs.Calls as C
use Rattle.lethwyrn_c.specs.Heard as H
use Rattle.lethwyrn_c.specs.Sending as S
use Rattle.lethwyrn_c.specs.Standings.{Standing, log_front}

-- The calls on one handle, from the one that made the peer: what stands behind it, all bytes of the log that were handed out (those of the log
-- that it goes on from among them), and the greatest count of bytes that was named as stored (that of this log's, at first).
pub data Run : Standing → List ℕ → ℕ → Type 0 where
  begun : (text : List ℕ) (player : ℕ) (s : Standing) → C.IsMade text player s → Run s [] 0
  went_on : (text : List ℕ) (player : ℕ) (log : List ℕ) (s : Standing) → C.IsOn text player log s → Run s (log_front s.peer s.given) (length (log_front s.peer s.given))
  chose : (m : Move) (nonce : List ℕ) (s : Standing) (taken : List ℕ) (named : ℕ) → Run s taken named → Run (C.after_choice m nonce s) taken named
  heard_bytes : (from : ℕ) (bytes : List ℕ) (s : Standing) (taken : List ℕ) (named : ℕ) → Run s taken named → Run (H.hear_behind from bytes s) taken named
  relinked : (player : ℕ) (s : Standing) (taken : List ℕ) (named : ℕ) → Run s taken named → Run (H.link_behind player s) taken named
  advanced : (s : Standing) (taken : List ℕ) (named : ℕ) → Run s taken named → Run (C.after_advance s) taken named
  took_log : (bytes : List ℕ) (s t : Standing) (taken : List ℕ) (named : ℕ) → Run s taken named → S.IsEntryTaken bytes s t → Run t (taken ++ bytes) named
  stored_to : (bytes : ℕ) (s t : Standing) (taken : List ℕ) (named : ℕ) → Run s taken named → S.IsStoredTo bytes s t → Run t taken (max named bytes)
  took_frame : (bytes : List ℕ) (s t : Standing) (taken : List ℕ) (named : ℕ) → Run s taken named → S.IsFrameTaken bytes s t → Run t taken named
  sends_from : (place : ℕ) (s : Standing) (taken : List ℕ) (named : ℕ) → Run s taken named → Run (C.sending_from place s) taken named

-- the log is one of a session, whose player kept to the protocol
pub record IsFair (s : Standing) : Type 0 where
  pub session : IsSession s.peer.game
  pub honest : IsHonest s.peer.game s.peer.me s.peer.entries

-- in every run
abbrev pub RunsAreFair : Type 0
RunsAreFair = (s : Standing) (taken : List ℕ) (named : ℕ) → Run s taken named → IsFair s

-- what was handed out is the log's first bytes, and what is stored ends within what was named
pub record IsTold (s : Standing) (taken : List ℕ) (named : ℕ) : Type 0 where
  pub within : s.given ≤ length s.peer.entries
  pub stored_within : s.stored ≤ s.given
  pub taken_is : taken ≡ log_front s.peer s.given
  pub named_is : length (log_front s.peer s.stored) ≤ named

-- in every run
abbrev pub RunsAreTold : Type 0
RunsAreTold = (s : Standing) (taken : List ℕ) (named : ℕ) → Run s taken named → IsTold s taken named

-- the bytes are those of a frame that was made: its entry was handed out, and with all entries before it ends within the bytes named as stored
pub record IsSentStored (s : Standing) (taken : List ℕ) (named : ℕ) (bytes : List ℕ) : Type 0 where
  pub at : ℕ
  pub frame : TurnFrame
  pub entry_is : slice_get s.peer.entries at ≡ Some (Made frame)
  pub bytes_are : bytes ≡ frame_bytes frame
  pub was_taken : length (log_front s.peer (at + 1)) ≤ length taken
  pub was_named : length (log_front s.peer (at + 1)) ≤ named

-- no frame is handed out but so
abbrev pub FramesWaitForTheirEntries : Type 0
FramesWaitForTheirEntries = (s t : Standing) (taken : List ℕ) (named : ℕ) (bytes : List ℕ) → Run s taken named → S.IsFrameTaken bytes s t → IsSentStored s taken named bytes
