-- A law of the spelling of frames.
use Rattle.std.specs.Prelude.{◌≡◌, ℕ, List, ◌++◌}
use Rattle.definitions.specs.declared.frames.TurnFrame.{TurnFrame}
use Rattle.commitment.specs.Spelling.{frame_bytes, FitsFrame}

-- where the same bytes begin with two spellings, the frames are the same, and so is what follows them
abbrev pub NoSpellingBeginsAnother : Type 0
NoSpellingBeginsAnother = (f g : TurnFrame) (x y : List ℕ) → FitsFrame f → FitsFrame g → frame_bytes f ++ x ≡ frame_bytes g ++ y → (f ≡ g) × (x ≡ y)
