-- Words: what the words of the command say.
use Rattle.std.specs.Prelude.{ℕ, List, Option}
use Rattle.station.specs.Words.{only_word}

-- the session's file, by the words behind the command's name: `SESSION`
abbrev pub scheduling_in : List (List ℕ) → Option (List ℕ)
scheduling_in words = only_word words
