-- SealedFrames: a frame's spelling with its seal behind it, and files of such.
use Rattle.std.specs.Prelude.{ℕ, zero, suc, ◌+◌, Bool, List, [], ◌∷◌, length, take, drop, Option, Some, None, is_some, nat_le, nat_lt, slice_index, if◌then◌else◌}
use Rattle.definitions.specs.declared.limits.TheConstants.{LONGEST_LOG}
use Rattle.definitions.specs.Lists.{is_empty}
use Rattle.definitions.specs.declared.frames.TurnFrame.{TurnFrame}
use Rattle.definitions.specs.World.{Game}
use Rattle.commitment.specs.Spelling.{turn_frame_of}
use Rattle.seal_keys.specs.Seals.{seal_len}
use Rattle.sealed_evidence.specs.Judging.{is_sealed}

-- how many bytes the frame at the front has, as its third byte tells
abbrev pub frame_len : List ℕ → ℕ
frame_len bytes = slice_index bytes 2 + 3

-- the frame whose spelling stands at the front, if one does
unfoldable pub frame_ahead : List ℕ → Option TurnFrame
frame_ahead bytes = turn_frame_of (take (frame_len bytes) bytes)

-- the bytes behind it, as many as a seal has
abbrev pub seal_ahead : Game → List ℕ → List ℕ
seal_ahead game bytes = take (seal_len game) (drop (frame_len bytes) bytes)

-- the frame, where the seal behind it is valid for it
abbrev pub where_sealed : Game → List (List ℕ) → List ℕ → Option TurnFrame → Option TurnFrame
where_sealed game roots bytes None = None
where_sealed game roots bytes (Some f) = if is_sealed game roots f (seal_ahead game bytes) then Some f else None

-- the frame of the sealed frame at the front, if one stands there
unfoldable pub sealed_ahead : Game → List (List ℕ) → List ℕ → Option TurnFrame
sealed_ahead game roots bytes = where_sealed game roots bytes (frame_ahead bytes)

-- The first byte at which no sealed frame stands, if there is one, of the bytes from byte `at` of a
-- file on. So many sealed frames are looked at: each has a byte at least, so that as many as there
-- are bytes are enough.
unfoldable pub bad_from : Game → List (List ℕ) → (steps at : ℕ) → List ℕ → Option ℕ
bad_from game roots zero at bytes = None
bad_from game roots (suc n) at bytes =
    if is_empty bytes then None
    else if is_some (sealed_ahead game roots bytes) then bad_from game roots n (at + (frame_len bytes + seal_len game)) (drop (frame_len bytes + seal_len game) bytes)
    else Some at

-- the first byte of a file at which no sealed frame stands, and the limit where the file is longer
unfoldable pub first_bad : Game → List (List ℕ) → List ℕ → Option ℕ
first_bad game roots bytes = if nat_lt LONGEST_LOG (length bytes) then Some LONGEST_LOG else bad_from game roots (length bytes) 0 bytes

-- a frame with its seal
pub record SealedFrame : Type 0 where
  pub frame : TurnFrame
  pub seal : List ℕ

-- what follows the sealed frame at the front
abbrev pub behind_sealed : Game → List ℕ → List ℕ
behind_sealed game bytes = drop (frame_len bytes + seal_len game) bytes

-- the bytes are at least as many as a sealed frame at their front would have
abbrev pub is_whole : Game → List ℕ → Bool
is_whole game bytes = nat_le (frame_len bytes + seal_len game) (length bytes)

-- the sealed frame at the front, if there is one, and then those that follow
abbrev pub sealed_then : Game → List ℕ → Option TurnFrame → List SealedFrame → List SealedFrame
sealed_then game bytes None rest = []
sealed_then game bytes (Some f) rest = record { frame = f; seal = seal_ahead game bytes } ∷ rest

-- the sealed frames from the front of the bytes on, as far as one follows the other, but not more
-- than so many
unfoldable pub sealed_from : Game → List (List ℕ) → (steps : ℕ) → List ℕ → List SealedFrame
sealed_from game roots zero bytes = []
sealed_from game roots (suc n) bytes = sealed_then game bytes (sealed_ahead game roots bytes) (sealed_from game roots n (behind_sealed game bytes))

-- the sealed frames of a file, up to its first byte at which none stands
abbrev pub sealed_in : Game → List (List ℕ) → List ℕ → List SealedFrame
sealed_in game roots bytes = sealed_from game roots (length bytes) bytes
