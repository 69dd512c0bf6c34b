-- Seeds: the seed that a file has, or how the run ends where it has none. A file that isn't there counts as one
-- without bytes here; reading it is a fault of the shelf, which is answered where the file is read.
use Rattle.std.specs.Prelude.{ℕ, List, [], length, Option, Result, Ok, Err, ◌==◌, if◌then◌else◌, unwrap_or}
use Rattle.run_frame.specs.declared.statuses.Status.{Status}
use Rattle.run_frame.specs.declared.statuses.Status.TheVariants.{BadLine}
use Rattle.run_frame.specs.declared.statuses.TextName.TheVariants.{Seed}

-- a seed is 32 bytes, whatever they are
abbrev pub seed_said : List ℕ → Result (List ℕ) Status
seed_said bytes = if length bytes == 32 then Ok bytes else Err (BadLine Seed 1)

-- the seed of a file
abbrev pub seed_in : Option (List ℕ) → Result (List ℕ) Status
seed_in content = seed_said (unwrap_or content [])
