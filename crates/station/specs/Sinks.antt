-- What a sink is seen as, and what its calls make of it.
use Rattle.std.specs.Prelude.{ℕ, Bool, true, false, ◌<◌, ◌≤◌, List, ◌++◌, length, take}
use Rattle.station.specs.declared.sinks.Push.{Push}
use Rattle.station.specs.declared.sinks.Push.TheVariants.{Gave, Failed}
use Rattle.station.specs.Outside.{one_more}

-- a sink, by what its calls answered so far
pub record SinkState : Type 0 where
  -- the bytes that its calls took
  pub held : List ℕ
  -- how many of its calls failed, at most 2^64 - 1
  pub faults : ℕ

-- At least one byte was given, and no more than there are.
abbrev pub GivesWithin : Push → List ℕ → Type 0
GivesWithin (Gave count) bytes = (0 < count) × (count ≤ length bytes)
GivesWithin Failed bytes = Unit {0}

-- the sink behind bytes that it took
abbrev pub after_bytes : SinkState → List ℕ → SinkState
after_bytes s bytes = record { held = s.held ++ bytes; faults = s.faults }

-- the sink after a call: it took the bytes that were given, or failed once more
abbrev pub after_push : SinkState → Push → (bytes : List ℕ) → SinkState
after_push s (Gave count) bytes = after_bytes s (take count bytes)
after_push s Failed bytes = record { held = s.held; faults = one_more s.faults }

-- whether a call failed
abbrev pub is_push_failed : Push → Bool
is_push_failed (Gave count) = false
is_push_failed Failed = true
