-- How many bytes a read or a write may move.
use Rattle.std.specs.Prelude.{◌<◌, ◌≤◌, ℕ, List, length}
use Rattle.socket_station.specs.declared.answers.SocketRead.{SocketRead}
use Rattle.socket_station.specs.declared.answers.SocketRead.TheVariants as R
use Rattle.socket_station.specs.declared.answers.SocketWrite.{SocketWrite}
use Rattle.socket_station.specs.declared.answers.SocketWrite.TheVariants as W

-- At least one byte was taken, and no more than the buffer has room for.
abbrev pub TakesWithin : SocketRead → List ℕ → Type 0
TakesWithin (R.Took count) buf = (0 < count) × (count ≤ length buf)
TakesWithin R.NotYet buf = Unit {0}
TakesWithin R.Ended buf = Unit {0}
TakesWithin R.Failed buf = Unit {0}

-- At least one byte was given, and no more than there are.
abbrev pub GivesWithin : SocketWrite → List ℕ → Type 0
GivesWithin (W.Gave count) bytes = (0 < count) × (count ≤ length bytes)
GivesWithin W.NotYet bytes = Unit {0}
GivesWithin W.Failed bytes = Unit {0}
