-- Laws of files of sealed frames.
use Rattle.std.specs.Prelude.{◌≡◌, ◌<◌, ℕ, List, ◌++◌, Some, drop, slice_index, IsTrue, ◌+◌}
use Rattle.definitions.specs.declared.frames.TurnFrame.{TurnFrame}
use Rattle.definitions.specs.World.{Game}
use Rattle.commitment.specs.Spelling.{FitsFrame, frame_bytes}
use Rattle.seal_keys.specs.Seals.{seal_len}
use Rattle.sealed_evidence.specs.Judging.{is_sealed}
use Rattle.sealed_files.specs.SealedFrames.{frame_len, seal_ahead, sealed_ahead}

-- a frame's spelling with a valid seal behind it is read as that sealed frame, whatever follows
abbrev pub SealedFramesAreFound : Type 0
SealedFramesAreFound = (game : Game) (roots : List (List ℕ)) (f : TurnFrame) (seal rest : List ℕ) → FitsFrame f → IsTrue (is_sealed game roots f seal) →
    (sealed_ahead game roots (frame_bytes f ++ (seal ++ rest)) ≡ Some f) × (seal_ahead game (frame_bytes f ++ (seal ++ rest)) ≡ seal)

-- what is read as a sealed frame was spelled so
abbrev pub SealedFramesAreSpelled : Type 0
SealedFramesAreSpelled = (game : Game) (roots : List (List ℕ)) (bytes : List ℕ) (f : TurnFrame) → ((i : ℕ) → slice_index bytes i < 256) → sealed_ahead game roots bytes ≡ Some f →
    (bytes ≡ frame_bytes f ++ (seal_ahead game bytes ++ drop (frame_len bytes + seal_len game) bytes)) × IsTrue (is_sealed game roots f (seal_ahead game bytes))
