-- Writing: what a writer of a log writes next, and all that it writes.
use Rattle.std.specs.Prelude.{ℕ, Bool, true, false, List, [], ◌∷◌, ◌++◌, nat_lt, if◌then◌else◌}
use Rattle.definitions.specs.declared.logs.Entry.{Entry}
use Rattle.session_log.specs.Reading.{LogReading}
use Rattle.session_log.specs.Spelling.{entry_text, chained, entry_bytes, first_chain}

-- a writer: the owner of the log, whether an entry was written, and the digest of the last one (or the session's id)
pub record Writing : Type 0 where
  pub owner : ℕ
  pub begun : Bool
  pub chain : List ℕ

-- a writer that wrote nothing yet
abbrev pub fresh : List ℕ → ℕ → Writing
fresh id owner = record { owner = owner; begun = false; chain = id }

-- what the next entry is chained to
abbrev pub chain_of : Writing → List ℕ
chain_of w = if w.begun then w.chain else first_chain w.chain w.owner

-- the owner's byte in front of the first entry
abbrev pub mark_of : Writing → List ℕ
mark_of w = if w.begun then [] else w.owner ∷ []

-- what is written for an entry
abbrev pub written : Writing → Entry → List ℕ
written w e = mark_of w ++ entry_bytes (chain_of w) e

-- the writer behind it
abbrev pub after : Writing → Entry → Writing
after w e = record { owner = w.owner; begun = true; chain = chained (chain_of w) (entry_text e) }

-- what is written for these entries, one behind the other
abbrev pub all_written : Writing → List Entry → List ℕ
all_written w [] = []
all_written w (e ∷ entries) = written w e ++ all_written (after w e) entries

-- the writer behind these entries
abbrev pub all_after : Writing → List Entry → Writing
all_after w [] = w
all_after w (e ∷ entries) = all_after (after w e) entries

-- a writer of this owner that goes on where a reader is
abbrev pub going_on : LogReading → ℕ → Writing
going_on r me = record { owner = me; begun = nat_lt 0 r.at; chain = r.chain }
