-- The log, and how much of it was synced when.
use Rattle.std.specs.Prelude.{ℕ, ◌+◌, ◌≤◌, nat_le, List, [], ◌∷◌, ◌++◌, length, if◌then◌else◌}
use Rattle.std.specs.List.{fold}
use Rattle.socket_station.specs.Items.{Item, Kept, Synced}
use Rattle.history_book.specs.declared.journal.SyncMark.{SyncMark}
use Rattle.history_book.specs.Tallies.{long}

-- the bytes kept, the syncs in order, and how many more syncs and bytes have room
pub record HeldJournal : Type 0 where
  pub kept : List ℕ
  pub marks : List SyncMark
  pub items : ℕ
  pub bytes : ℕ

-- No mark is of more bytes than these.
abbrev pub AreMarks : ℕ → List SyncMark → Type 0
AreMarks n [] = Unit {0}
AreMarks n (m ∷ marks) = (m.kept ≤ n) × AreMarks n marks

-- the syncs with one more
abbrev pub with_mark : (items kept : ℕ) → List SyncMark → List SyncMark
with_mark items kept marks = marks ++ record { items = items; kept = kept } ∷ []

-- how many bytes were synced within so many items, by a mark, and by earlier ones
abbrev pub mark_at : ℕ → ℕ → SyncMark → ℕ
mark_at items until m = if nat_le m.items items then m.kept else until

-- how many bytes were synced within so many items
abbrev pub synced_at : ℕ → List SyncMark → ℕ
synced_at items marks = fold (mark_at items) 0 marks

-- how many items and kept bytes there are so far, and the syncs among them
pub record Marking : Type 0 where
  pub told : ℕ
  pub kept : ℕ
  pub marks : List SyncMark

abbrev pub marking_after : Marking → Item → Marking
marking_after m (Kept bytes) = record { told = long (m.told + 1); kept = m.kept + length bytes; marks = m.marks }
marking_after m Synced = record { told = long (m.told + 1); kept = m.kept; marks = with_mark (long (m.told + 1)) m.kept m.marks }
marking_after m _ = record { told = long (m.told + 1); kept = m.kept; marks = m.marks }

abbrev pub marking_in : List Item → Marking
marking_in items = fold marking_after (record { told = 0; kept = 0; marks = [] }) items
