-- What an answer says of std's reader or writer behind it, where that one tells what it has left or holds.
use Rattle.std.specs.Prelude.{ℕ, Option, List, [], take}
use Rattle.std.specs.Io.KnownBytes.{Appends, Consumes, IsAtEnd, Keeps}
use Rattle.station.specs.declared.sources.Pull.{Pull}
use Rattle.station.specs.declared.sources.Pull.TheVariants.{Took, Ended, Failed as PullFailed}
use Rattle.station.specs.declared.sinks.Push.{Push}
use Rattle.station.specs.declared.sinks.Push.TheVariants.{Gave, Failed as PushFailed}

-- The reader lost the bytes that were taken and nothing else, and has nothing left where the end was answered.
abbrev pub TakesFrom : (before now : Option (List ℕ)) → Pull → (buf : List ℕ) → Type 0
TakesFrom before now (Took count) buf = Consumes before now (take count buf)
TakesFrom before now Ended buf = Consumes before now [] × IsAtEnd now
TakesFrom before now PullFailed buf = Keeps before now

-- The writer holds the bytes that were given and nothing else behind those that it held.
abbrev pub GivesTo : (before now : Option (List ℕ)) → Push → (bytes : List ℕ) → Type 0
GivesTo before now (Gave count) bytes = Appends before now (take count bytes)
GivesTo before now PushFailed bytes = Keeps before now
