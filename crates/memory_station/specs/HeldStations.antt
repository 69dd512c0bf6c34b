-- What a station in memory is seen as.
use Rattle.std.specs.Prelude.{ℕ, ◌+◌, Bool, not, ◌&&◌, Option, None, if◌then◌else◌}
use Rattle.history_book.specs.Books.{new_book, cut_off}
use Rattle.history_book.specs.HeldBooks.{HeldBook}
use Rattle.memory_station.specs.HeldRows.{HeldTable, new_table}
use Rattle.memory_station.specs.Plans.{HeldPlan, new_plan, fails}
use Rattle.history_book.specs.Rooms.{fits}
use Rattle.history_book.specs.Tallies.{calls_in, long}

pub record HeldStation : Type 0 where
  -- what was answered, and the room that is left for it
  pub book : HeldBook
  -- which calls are to fail
  pub plan : HeldPlan
  -- the sockets, and what was brought on them
  pub table : HeldTable
  -- how many bytes a write gives at most, once that was said
  pub most : Option ℕ

-- a station with so much room, on which nothing was called
abbrev pub new_station : ℕ → ℕ → HeldStation
new_station items bytes = record { book = new_book items bytes; plan = new_plan; table = new_table (items + 512); most = None }

-- whether the next call is to fail
abbrev pub fails_next : HeldPlan → HeldBook → Bool
fails_next plan book = fails plan (long (calls_in book.history + 1))

-- A call that is not to fail, and for whose item of so many bytes there is room, goes on.
abbrev pub goes_on : HeldPlan → HeldBook → ℕ → Bool
goes_on plan book need = not (fails_next plan book) && fits book.room need

abbrev pub goes : HeldStation → ℕ → Bool
goes w need = goes_on w.plan w.book need

-- the history as a call begins that would tell an item of so many bytes, and a failure of so many: without room for it the history is cut
abbrev pub begun : HeldPlan → (said need : ℕ) → HeldBook → HeldBook
begun plan said need book = if fits book.room (if fails_next plan book then said else need) then book else cut_off book
