-- Laws of rosters: each text of one ends before the front of a file that decides.
use Rattle.std.specs.Prelude.{ℕ, ◌<◌, ◌≤◌, List, length}
use Rattle.definitions.specs.declared.limits.TheConstants.{MOST_PLAYERS}
use Rattle.rosters.specs.declared.limits.TheConstants.{ROSTER_FRONT}
use Rattle.rosters.specs.Rosters.{Neighbours}
use Rattle.rosters.specs.Text.{IsReadFrom}

-- each text of a roster in a session ends before the front of a file that decides
abbrev pub RostersFitTheFront : Type 0
RostersFitTheFront = (me players : ℕ) (r : Neighbours) (text : List ℕ) → players ≤ MOST_PLAYERS → IsReadFrom me players r text → length text < ROSTER_FRONT
