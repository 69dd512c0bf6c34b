-- How what stands in memory tells the history.
use Rattle.std.specs.Prelude.{ℕ, ◌≤◌, ◌<◌, ◌≡◌, List, length, get_or}
use Rattle.socket_station.specs.Items.{Item}
use Rattle.socket_station.specs.Moved.{kept_in}
use Rattle.history_book.specs.declared.book.Book.TheInside.{Inside}
use Rattle.history_book.specs.declared.dials.Dials.{Dials}
use Rattle.history_book.specs.declared.room.Room.{Room}
use Rattle.history_book.specs.declared.tally.Tally.{Tally}
use Rattle.history_book.specs.Dials.{no_dials, dials_in}
use Rattle.history_book.specs.Journals.{HeldJournal, marking_in}
use Rattle.history_book.specs.Stores.{HeldPart, HeldStore, parts_in}
use Rattle.history_book.specs.Tallies.{calls_in, polls_in, long, short}

-- The counts, the dials, the byte strings and the log are those of the history.
pub record IsSeen (history : List Item) (tally : Tally) (table : List Dials) (store : List HeldPart) (journal : HeldJournal) : Type 0 where
  pub calls : tally.calls ≡ long (calls_in history)
  pub told : tally.told ≡ long (length history)
  pub polls : tally.polls ≡ short (polls_in history)
  pub players : length table ≡ 256
  pub dials : (q : ℕ) → q < 256 → get_or table q no_dials ≡ dials_in q history
  pub parts : store ≡ parts_in history
  pub kept : journal.kept ≡ kept_in history
  pub marks : journal.marks ≡ (marking_in history).marks
  pub marks_told : tally.told ≡ (marking_in history).told
  pub marks_kept : length journal.kept ≡ (marking_in history).kept

-- What is left of the room was taken at the start.
pub record IsHeld (room : Room) (store : HeldStore) (journal : HeldJournal) : Type 0 where
  pub store_items : room.items ≤ store.items
  pub store_bytes : room.bytes ≤ store.bytes
  pub journal_items : room.items ≤ journal.items
  pub journal_bytes : room.bytes ≤ journal.bytes

pub record IsBook (b : Inside) : Type 0 where
  pub seen : IsSeen b.notes b.tally b.dials b.store.parts b.journal
  pub held : IsHeld b.room b.store b.journal
