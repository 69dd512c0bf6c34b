-- How the answers of a station are noted.
use Rattle.std.specs.Prelude.{ℕ, ◌==◌, List, [], ◌∷◌, ◌++◌, get_or, if◌then◌else◌}
use Rattle.std.specs.List.{fold}
use Rattle.record.specs.Note.{Note}
use Rattle.socket_station.specs.declared.answers.Addr.{Addr}
use Rattle.socket_station.specs.declared.answers.Ready.{Ready}
use Rattle.socket_station.specs.declared.answers.Ready.TheVariants.{Opened, Socket as Seems}
use Rattle.socket_station.specs.declared.answers.Did.{Did}
use Rattle.socket_station.specs.declared.answers.Did.TheVariants.{Done, Failed as DidFailed}
use Rattle.socket_station.specs.declared.answers.Dial.{Dial}
use Rattle.socket_station.specs.declared.answers.Dial.TheVariants.{Socket, Failed as DialFailed}
use Rattle.socket_station.specs.declared.answers.SocketRead.{SocketRead}
use Rattle.socket_station.specs.declared.answers.SocketRead.TheVariants as R
use Rattle.socket_station.specs.declared.answers.SocketWrite.{SocketWrite}
use Rattle.socket_station.specs.declared.answers.SocketWrite.TheVariants as W
use Rattle.socket_station.specs.declared.notes.TheConstants.{LISTEN, LOG_TO, DIAL, POLL, READ, WRITE, SHUT, KEEP, LISTED_OPENED, LISTED_SOCKET, DONE, NOT_YET, ENDED}
use Rattle.socket_station.specs.Items.{Item, listen_item, log_item, dial_item, poll_item, read_item, write_item, Shut, keep_item, sync_item}

-- the answer of a number
abbrev pub did_of : ℕ → Did
did_of answer = if answer == DONE then Done else DidFailed

abbrev pub dial_of : ℕ → (socket : ℕ) → Dial
dial_of answer socket = if answer == DONE then Socket socket else DialFailed

abbrev pub read_of : ℕ → (count : ℕ) → SocketRead
read_of answer count = if answer == DONE then R.Took count else if answer == NOT_YET then R.NotYet else if answer == ENDED then R.Ended else R.Failed

abbrev pub write_of : ℕ → (count : ℕ) → SocketWrite
write_of answer count = if answer == DONE then W.Gave count else if answer == NOT_YET then W.NotYet else W.Failed

abbrev pub addr_of : (ip : List ℕ) → (port : ℕ) → Addr
addr_of ip port = record { ip = ip; port = port }

-- the number at a place of a note
abbrev pub number_at : ℕ → Note → ℕ
number_at k note = get_or note.numbers k 0

-- the item that a note is of, behind notes of this list
abbrev pub item_of : Note → List Ready → Item
item_of note list =
    let call = number_at 0 note in
    let answer = number_at 1 note in
    if call == LISTEN then listen_item (did_of answer) (addr_of note.name (number_at 3 note))
    else if call == LOG_TO then log_item (did_of answer) note.name
    else if call == DIAL then dial_item (dial_of answer (number_at 4 note)) (number_at 2 note) (addr_of note.name (number_at 3 note))
    else if call == POLL then poll_item (did_of answer) list
    else if call == READ then read_item (number_at 2 note) (read_of answer (number_at 3 note)) note.bytes
    else if call == WRITE then write_item (number_at 2 note) (write_of answer (number_at 3 note)) note.bytes
    else if call == SHUT then Shut (number_at 2 note)
    else if call == KEEP then keep_item (did_of answer) note.bytes
    else sync_item (did_of answer)

-- the items so far, and what was listed of the poll that comes next
pub record Noted : Type 0 where
  pub items : List Item
  pub list : List Ready

abbrev pub with_list : List Ready → Noted → Noted
with_list list noted = record { items = noted.items; list = noted.list ++ list }

abbrev pub with_note : Noted → Note → Noted
with_note noted note =
    let call = number_at 0 note in
    if call == LISTED_OPENED then with_list (Opened (number_at 2 note) ∷ []) noted
    else if call == LISTED_SOCKET then with_list (Seems (number_at 2 note) ∷ []) noted
    else record { items = noted.items ++ item_of note noted.list ∷ []; list = [] }

abbrev pub noted_in : List Note → Noted
noted_in notes = fold with_note (record { items = []; list = [] }) notes
