-- What the objects in memory answer, and which of their calls fail.
use Rattle.std.specs.Prelude.{ℕ, ◌+◌, ◌-◌, ◌^◌, min, Bool, ◌&&◌, ◌||◌, ◌==◌, nat_lt, nat_le, Option, Some, None, List, length, drop, if◌then◌else◌}
use Rattle.std.specs.List.{list_any}
use Rattle.station.specs.declared.sources.Pull.{Pull}
use Rattle.station.specs.declared.sources.Pull.TheVariants.{Failed as PullFailed}
use Rattle.station.specs.declared.sinks.Push.{Push}
use Rattle.station.specs.declared.sinks.Push.TheVariants.{Gave, Failed as PushFailed}
use Rattle.station.specs.Copies.{pull_of}
use Rattle.station.specs.Files.{content_in}
use Rattle.station.specs.Outside.{one_more, faults_behind}
use Rattle.station.specs.Plans.{Plan, HeldSource, HeldSink, HeldShelf, bytes_left}

-- the plan of an object that was not called yet
abbrev pub unused : List ℕ → Plan
unused fails = record { fails = fails; calls = 0; faults = 0 }

-- whether the next call is to fail
abbrev pub fails_next : Plan → Bool
fails_next plan = nat_lt (plan.calls + 1) (2 ^ 32) && list_any (λ number. number == plan.calls + 1) plan.fails

-- the plan after a call that failed or did not
abbrev pub after_call : Plan → (failed : Bool) → Plan
after_call plan failed = record { fails = plan.fails; calls = one_more plan.calls; faults = faults_behind failed plan.faults }

-- what a source in memory answers to a buffer with this room
abbrev pub source_answer : HeldSource → ℕ → Pull
source_answer source room = if fails_next source.plan then PullFailed else pull_of (bytes_left source.left) room

-- what a sink in memory answers to so many bytes: it fails at its numbers, and where its room is spent
abbrev pub sink_answer : HeldSink → ℕ → Push
sink_answer sink count = if fails_next sink.plan || nat_le sink.room (length sink.held) then PushFailed else Gave (min count (sink.room - length sink.held))

-- what a file gives at a place
abbrev pub pull_at : Option (List ℕ) → ℕ → ℕ → Pull
pull_at None at room = PullFailed
pull_at (Some content) at room = pull_of (drop at content) room

-- what a shelf in memory answers: it fails at its numbers, and for a name that isn't there
abbrev pub shelf_answer : HeldShelf → List ℕ → ℕ → ℕ → Pull
shelf_answer shelf name at room = if fails_next shelf.plan then PullFailed else pull_at (content_in shelf.files name) at room
