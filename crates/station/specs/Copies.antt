-- What is copied into a buffer.
use Rattle.std.specs.Prelude.{◌≡◌, ℕ, ◌==◌, min, if◌then◌else◌, List, [], length, take}
use Rattle.station.specs.declared.sources.Pull.{Pull}
use Rattle.station.specs.declared.sources.Pull.TheVariants.{Took, Ended, Failed}

-- The bytes taken are the first of these. Ended comes exactly where there are none, and the pull never fails.
abbrev pub Copied : List ℕ → Pull → List ℕ → Type 0
Copied from (Took count) buf = take count buf ≡ take count from
Copied from Ended buf = from ≡ []
Copied from Failed buf = ⊥

-- as many of these bytes as fit
abbrev pub pull_of : List ℕ → ℕ → Pull
pull_of left room = if length left == 0 then Ended else Took (min room (length left))
