-- Laws on strikes: whom a strike can hit.
use Rattle.std.specs.Prelude.{◌≡◌, ℕ, ◌<◌, ◌≤◌, ◌⊎◌, List, Option, None, Some, IsTrue, slice_get, take}
use Rattle.definitions.specs.declared.world.Cell.{Cell}
use Rattle.definitions.specs.declared.world.Move.{Move}
use Rattle.definitions.specs.declared.logs.Entry.{Entry}
use Rattle.definitions.specs.World.{Game, distance}
use Rattle.definitions.specs.Moves.{AreLegal}
use Rattle.definitions.specs.Held.{known, resolved_count}
use Rattle.definitions.specs.Meets.{meets}

-- legal moves of the player that begin with those that the log resolves
pub record GoesOn (game : Game) (me : ℕ) (h : List Entry) (q : ℕ) (moves : List Move) : Type 0 where
  pub begins : take (resolved_count game me h q) moves ≡ (known game me h q).moves
  pub legal : AreLegal game q moves

-- there is a strike, and the cell is within its blast
abbrev pub Strikes : Game → Option Cell → Cell → Type 0
Strikes game None at = ⊥
Strikes game (Some c) at = distance c at ≤ game.rules.blast

-- however the owner and another player whose turn isn't resolved go on, where one of them hits the other one in a turn that
-- the owner has revealed, they meet in it
abbrev pub WhoIsHitMeets : Type 0
WhoIsHitMeets = (game : Game) (me q t : ℕ) (h : List Entry) (own others : List Move) (mv other : Move) →
    t < resolved_count game me h me → resolved_count game me h q ≤ t → GoesOn game me h me own → GoesOn game me h q others →
    slice_get own t ≡ Some mv → slice_get others t ≡ Some other → Strikes game mv.strike other.to ⊎ Strikes game other.strike mv.to →
    IsTrue (meets game me h q t)
