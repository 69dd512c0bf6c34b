-- How a history in memory grows, and where it is cut.
use Rattle.std.specs.Prelude.{ℕ, Option, Some, None, [], ◌∷◌, ◌++◌, length, unwrap_or}
use Rattle.socket_station.specs.declared.answers.Dial.{Dial}
use Rattle.socket_station.specs.declared.answers.Dial.TheVariants.{Socket, Failed as DialFailed}
use Rattle.socket_station.specs.declared.answers.SocketRead.{SocketRead}
use Rattle.socket_station.specs.declared.answers.SocketRead.TheVariants as R
use Rattle.socket_station.specs.declared.answers.SocketWrite.{SocketWrite}
use Rattle.socket_station.specs.declared.answers.SocketWrite.TheVariants as W
use Rattle.socket_station.specs.Items.{Item}
use Rattle.history_book.specs.HeldBooks.{HeldBook}
use Rattle.history_book.specs.Rooms.{spent_by, cut_at}
use Rattle.history_book.specs.Tallies.{long}

-- an empty history with so much room
abbrev pub new_book : ℕ → ℕ → HeldBook
new_book items bytes = record { history = []; room = record { items = items; bytes = bytes; spent = None } }

-- the history with one more item, which takes room for so many bytes
abbrev pub with_item : Item → ℕ → HeldBook → HeldBook
with_item item bytes book = record { history = book.history ++ item ∷ []; room = spent_by bytes book.room }

-- the history where a call found too little room: what has room ends here
abbrev pub cut_off : HeldBook → HeldBook
cut_off book = record { history = book.history; room = cut_at (long (length book.history)) book.room }

-- how many items were told before the history was cut, or all of them
abbrev pub items_told : HeldBook → ℕ
items_told book = unwrap_or book.room.spent (long (length book.history))

-- the socket that a dial opened
abbrev pub dialled_by : Dial → Option ℕ
dialled_by (Socket s) = Some s
dialled_by DialFailed = None

-- how many bytes a read took, and a write gave
abbrev pub taken_by : SocketRead → ℕ
taken_by (R.Took count) = count
taken_by R.NotYet = 0
taken_by R.Ended = 0
taken_by R.Failed = 0

abbrev pub given_by : SocketWrite → ℕ
given_by (W.Gave count) = count
given_by W.NotYet = 0
given_by W.Failed = 0
