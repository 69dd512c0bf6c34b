-- Counting: how many own frames a player is counted to have.
use Rattle.std.specs.Prelude.{◌≡◌, ◌⊎◌, ℕ, ◌+◌, List, ◌∷◌, ◌++◌, Some, slice_get, flat_map}
use Rattle.definitions.specs.declared.frames.TurnFrame.{TurnFrame}
use Rattle.wire_frames.specs.declared.frames.Frame.{Frame}
use Rattle.wire_frames.specs.declared.frames.Frame.TheVariants.{Turn}
use Rattle.wire_frames.specs.Spelling.{spelling}
use Rattle.loop_rules.specs.Settings.{Setting}
use Rattle.loop_laws.specs.Speaking.{IsNamed, IsAsked}

-- the own frame at the place was wholly given, among the frames that these bytes begin with
pub record IsWhollyGiven (own : List TurnFrame) (given : List ℕ) (place : ℕ) : Type 0 where
  pub frame : TurnFrame
  pub stands : slice_get own place ≡ Some frame
  pub front : List Frame
  pub back : List Frame
  pub rest : List ℕ
  pub spelled : given ≡ flat_map spelling (front ++ Turn frame ∷ back) ++ rest

-- on a socket of the player, where these frames came and these bytes were given, it asked for the
-- own frames from there on, or the one before was wholly given
abbrev pub IsReachedOn : Setting → (own : List TurnFrame) → (came : List Frame) →
    (given : List ℕ) → (q : ℕ) → (count : ℕ) → Type 0
IsReachedOn s own came given q count = IsNamed s came q ×
    (IsAsked came count ⊎ ((place : ℕ) × (count ≡ place + 1) × IsWhollyGiven own given place))
