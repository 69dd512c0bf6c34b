-- The bytes that were given, and the names of logs.
use Rattle.std.specs.Prelude.{ℕ, ◌+◌, ◌≤◌, ◌==◌, Bool, false, List, [], ◌∷◌, ◌++◌, take, drop, bytes_eq, if◌then◌else◌}
use Rattle.std.specs.List.{flat_map, fold, list_any}
use Rattle.socket_station.specs.Items.{Item, LogBegun, Gave}
use Rattle.history_book.specs.declared.store.What.{What}
use Rattle.history_book.specs.declared.store.What.TheVariants.{Given, LogName}
use Rattle.history_book.specs.declared.store.Part.{Part}

-- a byte string, and what it is
pub record HeldPart : Type 0 where
  pub what : What
  pub bytes : List ℕ

-- byte strings, and how many more of them with how many bytes have room
pub record HeldStore : Type 0 where
  pub parts : List HeldPart
  pub items : ℕ
  pub bytes : ℕ

-- the byte string of a part, which stands among all bytes
abbrev pub part_of : List ℕ → Part → HeldPart
part_of bytes p = record { what = p.what; bytes = take p.len (drop p.at bytes) }

-- Each part stands among so many bytes.
abbrev pub AreWithin : ℕ → List Part → Type 0
AreWithin n [] = Unit {0}
AreWithin n (p ∷ parts) = (p.at + p.len ≤ n) × AreWithin n parts

-- the byte strings with one more
abbrev pub with_part : What → List ℕ → List HeldPart → List HeldPart
with_part what bytes parts = parts ++ record { what = what; bytes = bytes } ∷ []

-- the bytes of a part that was given on a socket
abbrev pub given_by : ℕ → What → List ℕ → List ℕ
given_by s (Given t) bytes = if t == s then bytes else []
given_by s LogName bytes = []

abbrev pub given_part : ℕ → HeldPart → List ℕ
given_part s p = given_by s p.what p.bytes

-- the bytes given on a socket
abbrev pub given_parts : ℕ → List HeldPart → List ℕ
given_parts s parts = flat_map (given_part s) parts

abbrev pub names_by : List ℕ → What → List ℕ → Bool
names_by name (Given t) bytes = false
names_by name LogName bytes = bytes_eq bytes name

-- whether a part is that name of a log
abbrev pub names_log : List ℕ → HeldPart → Bool
names_log name p = names_by name p.what p.bytes

-- what a history gave, and the logs that it began, in order
abbrev pub parts_after : List HeldPart → Item → List HeldPart
parts_after parts (LogBegun name) = with_part LogName name parts
parts_after parts (Gave s bytes) = with_part (Given s) bytes parts
parts_after parts _ = parts

abbrev pub parts_in : List Item → List HeldPart
parts_in items = fold parts_after [] items

-- whether an item begins a log of that name
abbrev pub begins : List ℕ → Item → Bool
begins name (LogBegun begun) = bytes_eq begun name
begins name _ = false

-- whether a log of that name was begun
abbrev pub is_begun : List ℕ → List Item → Bool
is_begun name items = list_any (begins name) items
