-- Beginnings: bytes that begin with sealed frames, also where more of a file is still to come.
use Rattle.std.specs.Prelude.{◌≡◌, ℕ, List, [], ◌∷◌, Some}
use Rattle.definitions.specs.World.{Game}
use Rattle.sealed_files.specs.SealedFrames.{SealedFrame, behind_sealed, seal_ahead, sealed_ahead}

-- the bytes are these sealed frames, one behind the other, and then this rest
abbrev pub Begins : Game → List (List ℕ) → (bytes : List ℕ) → List SealedFrame → (rest : List ℕ) → Type 0
Begins game roots bytes [] rest = bytes ≡ rest
Begins game roots bytes (s ∷ ss) rest =
    (sealed_ahead game roots bytes ≡ Some s.frame) × (seal_ahead game bytes ≡ s.seal) × Begins game roots (behind_sealed game bytes) ss rest
