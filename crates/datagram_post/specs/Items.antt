-- Items: what a post was asked and answered, call by call.
use Rattle.std.specs.Prelude.{ℕ, Bool, true, false, List, take}
use Rattle.socket_station.specs.declared.answers.Addr.{Addr}
use Rattle.socket_station.specs.declared.answers.Did.{Did}
use Rattle.socket_station.specs.declared.answers.Did.TheVariants.{Done, Failed as DidFailed}
use Rattle.datagram_post.specs.declared.answers.Received.{Received}
use Rattle.datagram_post.specs.declared.answers.Received.TheVariants as R
use Rattle.datagram_post.specs.declared.answers.Sent.{Sent}
use Rattle.datagram_post.specs.declared.answers.Sent.TheVariants as S

-- a call that failed, with what it was asked
pub data Call : Type 0 where
  BindCall : Addr → Call
  -- the log's name
  LogCall : List ℕ → Call
  PollCall : Call
  ReceiveCall : Call
  -- the address and the bytes
  SendCall : Addr → List ℕ → Call
  -- the bytes
  KeepCall : List ℕ → Call
  SyncCall : Call

-- what one call was asked and answered
pub data Item : Type 0 where
  Bound : Addr → Item
  -- the log's name
  LogBegun : List ℕ → Item
  Polled : Item
  -- the bytes of a datagram that came
  Took : List ℕ → Item
  ReceiveNotYet : Item
  -- the address and the bytes of a datagram that went out, or that couldn't yet
  Gave : Addr → List ℕ → Item
  SendNotYet : Addr → List ℕ → Item
  Failed : Call → Item
  Kept : List ℕ → Item
  Synced : Item

-- what a call answers that did what it was asked, or failed
abbrev pub did_by : (done : Bool) → Did
did_by true = Done
did_by false = DidFailed

-- the item of an answer to `bind`
abbrev pub bind_item : Did → Addr → Item
bind_item Done addr = Bound addr
bind_item DidFailed addr = Failed (BindCall addr)

-- the item of an answer to `log_to`
abbrev pub log_item : Did → List ℕ → Item
log_item Done name = LogBegun name
log_item DidFailed name = Failed (LogCall name)

-- the item of an answer to `poll`
abbrev pub poll_item : Did → Item
poll_item Done = Polled
poll_item DidFailed = Failed PollCall

-- the item of an answer to `receive`: the bytes taken stand at the front of the buffer
abbrev pub receive_item : Received → List ℕ → Item
receive_item (R.Took count) buf = Took (take count buf)
receive_item R.NotYet buf = ReceiveNotYet
receive_item R.Failed buf = Failed ReceiveCall

-- the item of an answer to `send`
abbrev pub send_item : Sent → Addr → List ℕ → Item
send_item S.Gave addr bytes = Gave addr bytes
send_item S.NotYet addr bytes = SendNotYet addr bytes
send_item S.Failed addr bytes = Failed (SendCall addr bytes)

-- the item of an answer to `keep`
abbrev pub keep_item : Did → List ℕ → Item
keep_item Done bytes = Kept bytes
keep_item DidFailed bytes = Failed (KeepCall bytes)

-- the item of an answer to `sync`
abbrev pub sync_item : Did → Item
sync_item Done = Synced
sync_item DidFailed = Failed SyncCall
