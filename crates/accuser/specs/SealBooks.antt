-- SealBooks: the seals that are kept of frames, one for each.
use Rattle.std.specs.Prelude.{◌≡◌, ℕ, List, [], ◌∷◌, Option, None, Some, length, if◌then◌else◌}
use Rattle.std.specs.Map.{lookup}
use Rattle.std.specs.BTreeMap.{is_at}
use Rattle.std.specs.Option.{option_or}
use Rattle.definitions.specs.declared.frames.TurnFrame.{TurnFrame}
use Rattle.definitions.specs.World.{Game}
use Rattle.definitions.specs.Logs.{frame_eq}
use Rattle.sealed_files.specs.SealedFrames.{SealedFrame}
use Rattle.accuser.specs.declared.frame_key.FrameKey.{FrameKey}
use Rattle.accuser.specs.Keys.{key_cmp, key_of}

-- a book of seals as contracts see it: its session, and the seals by their frames' keys
pub record Book : Type 0 where
  pub game : Game
  pub entries : List (FrameKey × List ℕ)

-- the seal that is kept under the key, if there is one
abbrev pub seal_under : List (FrameKey × List ℕ) → FrameKey → Option (List ℕ)
seal_under entries k = lookup (is_at (key_cmp k)) entries

-- the seal that is kept of the frame, if there is one
abbrev pub seal_in : Book → TurnFrame → Option (List ℕ)
seal_in b f = seal_under b.entries (key_of f)

-- each seal that is kept has this length
abbrev pub AreLong : ℕ → List (FrameKey × List ℕ) → Type 0
AreLong n entries = (k : FrameKey) (s : List ℕ) → seal_under entries k ≡ Some s → length s ≡ n

-- the seal of the first of these sealed frames that has this frame, if one has it
abbrev pub seal_among : List SealedFrame → TurnFrame → Option (List ℕ)
seal_among [] f = None
seal_among (s ∷ ss) f = if frame_eq s.frame f then Some s.seal else seal_among ss f

-- Of each frame the seal that was kept stays. Where none was, the first among these is kept.
abbrev pub KeepsSeals : (before now : Book) → List SealedFrame → Type 0
KeepsSeals before now ss = (f : TurnFrame) → seal_in now f ≡ option_or (seal_in before f) (seal_among ss f)
