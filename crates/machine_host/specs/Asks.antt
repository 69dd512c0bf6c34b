-- Asks: what a machine was asked, and what it answered, call by call.
use Rattle.std.specs.Prelude.{ℕ, List, take, Option, Some, None, Result, Ok, Err}
use Rattle.socket_station.specs.declared.answers.Addr.{Addr}
use Rattle.machine_host.specs.declared.faults.HostFault.{HostFault}

-- Each call, with what it was asked and then what it answered. A socket goes by the number that it
-- was opened under. Where a call only succeeds or fails, None says that it succeeded.
pub data Ask : Type 0 where
  -- the milliseconds since some start
  Clock : Result ℕ HostFault → Ask
  -- the object that readiness is asked of was made
  Selected : Option HostFault → Ask
  -- the address that it listens at
  Listened : Addr → Option HostFault → Ask
  -- the readiness of what listens is reported
  ListenerWatched : Option HostFault → Ask
  -- the socket of the next connection that waits
  Accepted : ℕ → Option HostFault → Ask
  -- the socket, and the address that it is to be connected to
  Connected : ℕ → Addr → Option HostFault → Ask
  -- the readiness of the socket is reported
  Watched : ℕ → Option HostFault → Ask
  -- how many milliseconds it waited at most, and which tokens were ready
  Waited : ℕ → Result (List ℕ) HostFault → Ask
  -- the socket, and the bytes that came
  Read : ℕ → Result (List ℕ) HostFault → Ask
  -- the socket, the bytes, and how many of them went
  Wrote : ℕ → List ℕ → Result ℕ HostFault → Ask
  -- the socket, of which no more is sent
  WritesEnded : ℕ → Option HostFault → Ask
  -- the socket, which is gone
  Closed : ℕ → Ask
  -- the path of a new file, and its mode
  Created : List ℕ → ℕ → Option HostFault → Ask
  -- the path of a folder that is there
  FolderOpened : List ℕ → Option HostFault → Ask
  -- the bytes, and how many of them stand at the file's end now
  Appended : List ℕ → Result ℕ HostFault → Ask
  -- what stands in the file stays after a crash
  FileSynced : Option HostFault → Ask
  -- which files the folder has stays after a crash
  FolderSynced : Option HostFault → Ask
  -- the address that datagrams are received and sent at
  Bound : Addr → Option HostFault → Ask
  -- the readiness of what datagrams are received by is reported
  MailboxWatched : Option HostFault → Ask
  -- the bytes of the next datagram, or the first of them
  Received : Result (List ℕ) HostFault → Ask
  -- the address, the bytes of the datagram, and how many of them went
  Sent : Addr → List ℕ → Result ℕ HostFault → Ask

-- why a call failed, if it did
abbrev pub error_of : {A : Type 0} → Result A HostFault → Option HostFault
error_of (Ok a) = None
error_of (Err fault) = Some fault

-- a read or a receive answered so, and the bytes that came stand at the front of the buffer
abbrev pub bytes_of : Result ℕ HostFault → (buf : List ℕ) → Result (List ℕ) HostFault
bytes_of (Ok count) buf = Ok (take count buf)
bytes_of (Err fault) buf = Err fault

-- a wait answered so, and these tokens stand in the list
abbrev pub list_of : {A : Type 0} → Result A HostFault → (list : List ℕ) → Result (List ℕ) HostFault
list_of (Ok a) list = Ok list
list_of (Err fault) list = Err fault
