-- Noted: how the calls of a host are noted.
use Rattle.std.specs.Prelude.{ℕ, ◌==◌, List, [], ◌∷◌, ◌++◌, drop, get_or, Option, Some, None, Result, Ok, Err, if◌then◌else◌}
use Rattle.std.specs.List.{fold}
use Rattle.record.specs.Note.{Note}
use Rattle.socket_station.specs.declared.answers.Addr.{Addr}
use Rattle.machine_host.specs.declared.faults.HostFault.{HostFault}
use Rattle.machine_host.specs.declared.faults.HostFault.TheVariants as F
use Rattle.machine_host.specs.declared.notes.TheConstants as C
use Rattle.machine_host.specs.Asks.{Ask, Clock, Selected, Listened, ListenerWatched, Accepted, Connected, Watched, Waited, Read, Wrote, WritesEnded, Closed, Created, FolderOpened, Appended, FileSynced, FolderSynced, Bound, MailboxWatched, Received, Sent}

-- the fault of a number
abbrev pub fault_said : ℕ → HostFault
fault_said code =
    if code == 1 then F.WouldBlock
    else if code == 2 then F.NotFound
    else if code == 3 then F.NoRight
    else if code == 4 then F.Exists
    else if code == 5 then F.InUse
    else if code == 6 then F.Refused
    else if code == 7 then F.Reset
    else if code == 8 then F.Full
    else F.Other

-- what a number says of a call: 0 that it succeeded
abbrev pub done_said : ℕ → Option HostFault
done_said code = if code == 0 then None else Some (fault_said code)

abbrev pub answer_said : {A : Type 0} → ℕ → A → Result A HostFault
answer_said code a = if code == 0 then Ok a else Err (fault_said code)

abbrev pub addr_of : (ip : List ℕ) → (port : ℕ) → Addr
addr_of ip port = record { ip = ip; port = port }

-- the number at a place of a note
abbrev pub number_at : ℕ → Note → ℕ
number_at k note = get_or note.numbers k 0

-- the call that a note is of, after a note that a wait has at most so many milliseconds
abbrev pub ask_of : Note → (millis : ℕ) → Ask
ask_of note millis =
    let call = get_or note.name 0 0 in
    let code = get_or note.name 1 0 in
    if call == C.CLOCK then Clock (answer_said code (number_at 0 note))
    else if call == C.SELECT then Selected (done_said code)
    else if call == C.LISTEN then Listened (addr_of note.bytes (number_at 0 note)) (done_said code)
    else if call == C.WATCH_LISTENER then ListenerWatched (done_said code)
    else if call == C.ACCEPT then Accepted (number_at 0 note) (done_said code)
    else if call == C.CONNECT then Connected (number_at 0 note) (addr_of note.bytes (number_at 1 note)) (done_said code)
    else if call == C.WATCH then Watched (number_at 0 note) (done_said code)
    else if call == C.WAIT then Waited millis (answer_said code note.numbers)
    else if call == C.READ then Read (number_at 0 note) (answer_said code note.bytes)
    else if call == C.WRITE then Wrote (number_at 0 note) note.bytes (answer_said code (number_at 1 note))
    else if call == C.END_WRITES then WritesEnded (number_at 0 note) (done_said code)
    else if call == C.CLOSE then Closed (number_at 0 note)
    else if call == C.CREATE then Created note.bytes (number_at 0 note) (done_said code)
    else if call == C.OPEN_FOLDER then FolderOpened note.bytes (done_said code)
    else if call == C.APPEND then Appended note.bytes (answer_said code (number_at 0 note))
    else if call == C.SYNC_FILE then FileSynced (done_said code)
    else if call == C.SYNC_FOLDER then FolderSynced (done_said code)
    else if call == C.BIND then Bound (addr_of note.bytes (number_at 0 note)) (done_said code)
    else if call == C.WATCH_MAILBOX then MailboxWatched (done_said code)
    else if call == C.RECEIVE then Received (answer_said code note.bytes)
    else Sent (addr_of (drop 2 note.name) (number_at 0 note)) note.bytes (answer_said code (number_at 1 note))

-- the calls so far, and how long the wait that comes next may last
pub record Noted : Type 0 where
  pub asks : List Ask
  pub millis : ℕ

abbrev pub with_note : Noted → Note → Noted
with_note noted note =
    if get_or note.name 0 0 == C.WAIT_AT_MOST then record { asks = noted.asks; millis = number_at 0 note }
    else record { asks = noted.asks ++ ask_of note noted.millis ∷ []; millis = noted.millis }

abbrev pub noted_in : List Note → Noted
noted_in notes = fold with_note (record { asks = []; millis = 0 }) notes
