-- What a source is seen as, and what its calls make of it.
use Rattle.std.specs.Prelude.{ℕ, Bool, true, false, ◌<◌, ◌≤◌, ◌≡◌, Option, Some, None, List, [], ◌++◌, length, take}
use Rattle.station.specs.declared.sources.Pull.{Pull}
use Rattle.station.specs.declared.sources.Pull.TheVariants.{Took, Ended, Failed}
use Rattle.station.specs.Outside.{one_more}

-- a source, by what its calls answered so far
pub record SourceState : Type 0 where
  -- all its bytes, given or not, where the object shows them
  pub whole : Option (List ℕ)
  -- the bytes that its calls gave
  pub seen : List ℕ
  -- whether one of its calls answered the end
  pub ended : Bool
  -- how many of its calls failed, at most 2^64 - 1
  pub faults : ℕ

-- At least one byte was taken, and no more than the buffer has room for.
abbrev pub TakesWithin : Pull → List ℕ → Type 0
TakesWithin (Took count) buf = (0 < count) × (count ≤ length buf) × (count ≡ length (take count buf))
TakesWithin Ended buf = Unit {0}
TakesWithin Failed buf = Unit {0}

-- the source after a call: it gave what was taken, or answered the end, or failed once more
abbrev pub after_pull : SourceState → Pull → (buf : List ℕ) → SourceState
after_pull s (Took count) buf = record { whole = s.whole; seen = s.seen ++ take count buf; ended = s.ended; faults = s.faults }
after_pull s Ended buf = record { whole = s.whole; seen = s.seen; ended = true; faults = s.faults }
after_pull s Failed buf = record { whole = s.whole; seen = s.seen; ended = s.ended; faults = one_more s.faults }

-- the bytes that a call gave, none at the end, and nothing where it failed
abbrev pub pulled : Pull → List ℕ → Option (List ℕ)
pulled (Took count) buf = Some (take count buf)
pulled Ended buf = Some []
pulled Failed buf = None

-- whether a call failed
abbrev pub is_pull_failed : Pull → Bool
is_pull_failed (Took count) = false
is_pull_failed Ended = false
is_pull_failed Failed = true
