-- Withins: how many bytes a receive may take.
use Rattle.std.specs.Prelude.{◌≤◌}
use Rattle.datagram_post.specs.declared.answers.TheConstants.{MOST_TAKEN}
use Rattle.datagram_post.specs.declared.answers.Received.{Received}
use Rattle.datagram_post.specs.declared.answers.Received.TheVariants as R

-- No more bytes were taken than the buffer has room for.
abbrev pub TakesWithin : Received → Type 0
TakesWithin (R.Took count) = count ≤ MOST_TAKEN
TakesWithin R.NotYet = Unit {0}
TakesWithin R.Failed = Unit {0}
