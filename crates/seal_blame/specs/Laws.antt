-- Laws of blame.
use Rattle.std.specs.Prelude.{◌≡◌, ◌≤◌, ℕ, List, Some, slice_get}
use Rattle.definitions.specs.declared.findings.Kind.{Kind}
use Rattle.definitions.specs.declared.frames.TurnFrame.{TurnFrame}
use Rattle.definitions.specs.declared.logs.Entry.{Entry}
use Rattle.definitions.specs.World.{Game}
use Rattle.definitions.specs.Logs.{made}
use Rattle.definitions.specs.Honest.{IsHonest}
use Rattle.definitions.specs.Exhibits.{Shows}
use Rattle.definition_laws.specs.Members.{Has}
use Rattle.seal_blame.specs.Made.{AreMade}

-- the frames that the owner of an honest log made are made in fair play
abbrev pub HonestLogsAreMadeSo : Type 0
HonestLogsAreMadeSo = (game : Game) (me : ℕ) (h : List Entry) → 1 ≤ game.ahead → IsHonest game me h → AreMade game me (made h)

-- frames that show that a player broke the protocol are not all among those that a player makes who
-- plays fair
abbrev pub ShownFramesAreNotMade : Type 0
ShownFramesAreNotMade = (game : Game) (q t : ℕ) (kind : Kind) (frames made : List TurnFrame) → Shows game q t kind frames → AreMade game q made →
    ((j : ℕ) (f : TurnFrame) → slice_get frames j ≡ Some f → Has made f) → ⊥
