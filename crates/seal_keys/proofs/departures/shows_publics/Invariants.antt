use Rattle.std.proofs.Common.{◌≡◌}
use Rattle.seal_keys.specs.Keys as K
use Rattle.seal_keys.specs.Parts.{joined_below}
use Rattle.seal_keys.specs.Seals as S
use Rattle.seal_keys.proofs.departures.shows_publics.Given as goal

abbrev pub invariant-loop-i : goal.invariant-loop-i
invariant-loop-i l = joined_below (S.shown_pair l.message l.seal) l.i ≡ joined_below (K.public_pair l.seed l.place) l.i
