-- Marks: where the two marks of a log stand.
use Rattle.std.specs.Prelude.{◌≡◌, ℕ, ◌+◌, ◌≤◌, ◌⊎◌}
use Rattle.peer_core.specs.Views.{PeerState}
use Rattle.lethwyrn_c.specs.declared.mark.Mark.{Mark}
use Rattle.lethwyrn_c.specs.Fronts.{StandsAt}

-- the mark is that of the front of the peer's log with as many entries
abbrev pub IsMarkOf : PeerState → Mark → Type 0
IsMarkOf p m = StandsAt p.game.id p.me p.entries m.entries m.writer m.bytes

-- one mark is behind the entries that were handed out, of which so many are stored; the other is behind the stored ones, or behind the next
pub record AreMarks (p : PeerState) (given ahead : Mark) (stored : ℕ) : Type 0 where
  pub given_is : IsMarkOf p given
  pub ahead_is : IsMarkOf p ahead
  pub within : stored ≤ given.entries
  pub near : (ahead.entries ≡ stored) ⊎ (ahead.entries ≡ stored + 1)
