-- Bounds: no player's hits are too many to be counted.
use Rattle.std.specs.Prelude.{ℕ, ◌+◌, ◌*◌, ◌<◌, ◌≤◌, List}
use Rattle.definitions.specs.declared.limits.TheConstants.{MOST_PLAYERS, MOST_TURNS}
use Rattle.definitions.specs.Lists.{item_or}
use Rattle.playout.specs.declared.standing.Standing.{Standing}
use Rattle.playout.specs.Playing.{no_standing}

-- fewer hits than this were given, and fewer taken
pub record IsBelow (most : ℕ) (s : Standing) : Type 0 where
  pub given : s.score.given < most
  pub taken : s.score.taken < most

-- the same of each player
abbrev pub AreBelow : ℕ → List Standing → Type 0
AreBelow most ss = (q : ℕ) → IsBelow most (item_or ss q no_standing)

-- so many turns were played, in each of which no player gave or took more hits than there are players
pub record IsCounted (turns : ℕ) (ss : List Standing) : Type 0 where
  pub few : turns ≤ MOST_TURNS
  pub below : AreBelow (1 + MOST_PLAYERS * turns) ss
