-- Noted: how the answers of a post are noted, and read again.
use Rattle.std.specs.Prelude.{ℕ, ◌==◌, List, [], map, get_or, if◌then◌else◌}
use Rattle.record.specs.Note.{Note}
use Rattle.socket_station.specs.declared.answers.Addr.{Addr}
use Rattle.socket_station.specs.declared.answers.Did.{Did}
use Rattle.socket_station.specs.declared.answers.Did.TheVariants.{Done, Failed as DidFailed}
use Rattle.datagram_post.specs.declared.answers.Received.{Received}
use Rattle.datagram_post.specs.declared.answers.Received.TheVariants as R
use Rattle.datagram_post.specs.declared.answers.Sent.{Sent}
use Rattle.datagram_post.specs.declared.answers.Sent.TheVariants as S
use Rattle.datagram_post.specs.declared.notes.TheConstants.{BIND, LOG_TO, POLL, RECEIVE, SEND, KEEP, DONE, NOT_YET}
use Rattle.datagram_post.specs.Items.{Item, bind_item, log_item, poll_item, receive_item, send_item, keep_item, sync_item}

-- the answer of a number, where a call does what it is asked or fails
abbrev pub did_of : ℕ → Did
did_of answer = if answer == DONE then Done else DidFailed

-- the answer to `receive` of a number and a count of bytes
abbrev pub received_of : ℕ → (count : ℕ) → Received
received_of answer count = if answer == DONE then R.Took count else if answer == NOT_YET then R.NotYet else R.Failed

-- the answer to `send` of a number
abbrev pub sent_of : ℕ → Sent
sent_of answer = if answer == DONE then S.Gave else if answer == NOT_YET then S.NotYet else S.Failed

-- the address of four octets and a port
abbrev pub addr_of : (ip : List ℕ) → (port : ℕ) → Addr
addr_of ip port = record { ip = ip; port = port }

-- the number at a place of a note
abbrev pub number_at : ℕ → Note → ℕ
number_at k note = get_or note.numbers k 0

-- the item that a note is of
abbrev pub item_of : Note → Item
item_of note =
    let call = number_at 0 note in
    let answer = number_at 1 note in
    if call == BIND then bind_item (did_of answer) (addr_of note.name (number_at 2 note))
    else if call == LOG_TO then log_item (did_of answer) note.name
    else if call == POLL then poll_item (did_of answer)
    else if call == RECEIVE then receive_item (received_of answer (number_at 2 note)) note.bytes
    else if call == SEND then send_item (sent_of answer) (addr_of note.name (number_at 2 note)) note.bytes
    else if call == KEEP then keep_item (did_of answer) note.bytes
    else sync_item (did_of answer)

-- the items of notes
abbrev pub noted_in : List Note → List Item
noted_in notes = map item_of notes
