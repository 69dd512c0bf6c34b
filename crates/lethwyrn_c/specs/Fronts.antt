-- Fronts: the bytes of the first entries of a log, and a writer that stands behind them.
use Rattle.std.specs.Prelude.{◌≡◌, ℕ, ◌+◌, ◌≤◌, List, ◌++◌, length, take}
use Rattle.definitions.specs.declared.logs.Entry.{Entry}
use Rattle.session_log.specs.Spelling.{log_bytes}
use Rattle.session_log.specs.Writing.{Writing, all_after, fresh}

-- the bytes of the first n entries of a player's log
abbrev pub front : List ℕ → ℕ → List Entry → ℕ → List ℕ
front id me entries n = log_bytes id me (take n entries)

-- the writer stands behind the first n entries of the player's log, which have so many bytes
pub record StandsAt (id : List ℕ) (me : ℕ) (es : List Entry) (n : ℕ) (w : Writing) (count : ℕ) : Type 0 where
  pub within : n ≤ length es
  pub writer_is : w ≡ all_after (fresh id me) (take n es)
  pub count_is : count ≡ length (front id me es n)

-- the writer went on behind the next entry, and these are its bytes, which are the log's next ones
pub record GoesOn (id : List ℕ) (me : ℕ) (es : List Entry) (n m : ℕ) (w : Writing) (count : ℕ) (bytes : List ℕ) : Type 0 where
  pub stands : StandsAt id me es m w count
  pub bytes_are : front id me es (n + 1) ≡ front id me es n ++ bytes
