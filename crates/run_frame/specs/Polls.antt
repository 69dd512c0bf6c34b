-- Polls: how many polls a run is granted, and what it tells where all were made.
use Rattle.std.specs.Prelude.{ℕ, List, ◌++◌, Option, Some, None, codes, decimal, nat_le, if◌then◌else◌}
use Rattle.text_fields.specs.Numbers.{number_of}
use Rattle.run_frame.specs.declared.polls.TheConstants.{MOST_POLLS}

-- the number, where it is 1 at least
abbrev pub from_one : Option ℕ → Option ℕ
from_one None = None
from_one (Some n) = if nat_le 1 n then Some n else None

-- how many polls a word grants: at least one
abbrev pub polls_granted : List ℕ → Option ℕ
polls_granted word = from_one (number_of MOST_POLLS word)

-- all polls were made
unfoldable pub gave_up_text : (polls : ℕ) → List ℕ
gave_up_text polls = codes "gave up " ++ decimal polls ++ codes "\n"
