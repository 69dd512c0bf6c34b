-- What a station was asked and answered, item by item.
use Rattle.std.specs.Prelude.{ℕ, List, take}
use Rattle.socket_station.specs.declared.answers.Addr.{Addr}
use Rattle.socket_station.specs.declared.answers.Ready.{Ready}
use Rattle.socket_station.specs.declared.answers.Did.{Did}
use Rattle.socket_station.specs.declared.answers.Did.TheVariants.{Done, Failed as DidFailed}
use Rattle.socket_station.specs.declared.answers.Dial.{Dial}
use Rattle.socket_station.specs.declared.answers.Dial.TheVariants.{Socket, Failed as DialFailed}
use Rattle.socket_station.specs.declared.answers.SocketRead.{SocketRead}
use Rattle.socket_station.specs.declared.answers.SocketRead.TheVariants as R
use Rattle.socket_station.specs.declared.answers.SocketWrite.{SocketWrite}
use Rattle.socket_station.specs.declared.answers.SocketWrite.TheVariants as W

-- a call that failed, with what it was asked
pub data Call : Type 0 where
  ListenCall : Addr → Call
  -- the log's name
  LogCall : List ℕ → Call
  -- the player and the address
  DialCall : ℕ → Addr → Call
  PollCall : Call
  -- the socket
  ReadCall : ℕ → Call
  WriteCall : ℕ → Call
  -- the bytes
  KeepCall : List ℕ → Call
  SyncCall : Call

pub data Item : Type 0 where
  Listening : Addr → Item
  -- the log's name
  LogBegun : List ℕ → Item
  -- the socket, the player and the address
  Dialled : ℕ → ℕ → Addr → Item
  -- the list; it opens sockets
  Polled : List Ready → Item
  -- the socket and the bytes
  Took : ℕ → List ℕ → Item
  Gave : ℕ → List ℕ → Item
  -- the socket
  ReadNotYet : ℕ → Item
  WriteNotYet : ℕ → Item
  Ended : ℕ → Item
  Failed : Call → Item
  Shut : ℕ → Item
  Kept : List ℕ → Item
  Synced : Item

-- the item of each answer
abbrev pub listen_item : Did → Addr → Item
listen_item Done addr = Listening addr
listen_item DidFailed addr = Failed (ListenCall addr)

abbrev pub log_item : Did → List ℕ → Item
log_item Done name = LogBegun name
log_item DidFailed name = Failed (LogCall name)

abbrev pub dial_item : Dial → ℕ → Addr → Item
dial_item (Socket s) player addr = Dialled s player addr
dial_item DialFailed player addr = Failed (DialCall player addr)

abbrev pub poll_item : Did → List Ready → Item
poll_item Done list = Polled list
poll_item DidFailed list = Failed PollCall

abbrev pub read_item : ℕ → SocketRead → List ℕ → Item
read_item s (R.Took count) buf = Took s (take count buf)
read_item s R.NotYet buf = ReadNotYet s
read_item s R.Ended buf = Ended s
read_item s R.Failed buf = Failed (ReadCall s)

abbrev pub write_item : ℕ → SocketWrite → List ℕ → Item
write_item s (W.Gave count) bytes = Gave s (take count bytes)
write_item s W.NotYet bytes = WriteNotYet s
write_item s W.Failed bytes = Failed (WriteCall s)

abbrev pub keep_item : Did → List ℕ → Item
keep_item Done bytes = Kept bytes
keep_item DidFailed bytes = Failed (KeepCall bytes)

abbrev pub sync_item : Did → Item
sync_item Done = Synced
sync_item DidFailed = Failed SyncCall
