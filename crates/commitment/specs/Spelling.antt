-- Spelling: the bytes of a commitment frame and of a reveal frame.
use Rattle.std.specs.Prelude.{ℕ, ◌==◌, ◌+◌, ◌&&◌, ◌<◌, ◌^◌, ◌≡◌, Bool, List, [], ◌∷◌, ◌++◌, Option, Some, None, length, slice_index, slice_range, if◌then◌else◌}
use Rattle.std.specs.Int.{w16, w32, to_be_bytes, from_be_bytes}
use Rattle.definitions.specs.declared.world.Cell.{Cell}
use Rattle.definitions.specs.declared.frames.TurnFrame.{TurnFrame}
use Rattle.definitions.specs.declared.frames.TurnFrame.TheVariants.{Commit, Reveal}
use Rattle.definitions.specs.Openings.{move_bytes, FitsCell, FitsStrike}

-- how many bytes the payload of a reveal has: with a strike four more
abbrev pub reveal_length : Option Cell → ℕ
reveal_length None = 42
reveal_length (Some c) = 46

-- the one spelling of a frame: its kind, the length of its payload, and the payload
unfoldable pub frame_bytes : TurnFrame → List ℕ
frame_bytes (Commit p t d) = 2 ∷ 0 ∷ 37 ∷ p ∷ (to_be_bytes w32 t ++ d.bytes)
frame_bytes (Reveal p t m n) = 3 ∷ 0 ∷ reveal_length m.strike ∷ p ∷ (to_be_bytes w32 t ++ (move_bytes m ++ n.bytes))

-- the bytes are of this kind, and their payload is as long as its length says
abbrev pub has_head : ℕ → ℕ → List ℕ → Bool
has_head kind payload bytes =
    (length bytes == payload + 3) && (slice_index bytes 0 == kind) && (slice_index bytes 1 == 0) &&
    (slice_index bytes 2 == payload)

-- the number in the two bytes from this one on
abbrev pub short_at : List ℕ → ℕ → ℕ
short_at bytes at = from_be_bytes w16 (slice_index bytes at ∷ slice_index bytes (at + 1) ∷ [])

-- the cell in the four bytes from this one on
abbrev pub cell_at : List ℕ → ℕ → Cell
cell_at bytes at = record { x = short_at bytes at; y = short_at bytes (at + 2) }

-- the turn of a frame
abbrev pub turn_at : List ℕ → ℕ
turn_at bytes = from_be_bytes w32 (slice_index bytes 4 ∷ slice_index bytes 5 ∷ slice_index bytes 6 ∷ slice_index bytes 7 ∷ [])

-- the frame that the bytes spell, if they spell one
unfoldable pub turn_frame_of : List ℕ → Option TurnFrame
turn_frame_of bytes =
    if has_head 2 37 bytes
    then Some (Commit (slice_index bytes 3) (turn_at bytes) (record { bytes = slice_range bytes 8 40 }))
    else if has_head 3 42 bytes && (slice_index bytes 12 == 0)
    then Some (Reveal (slice_index bytes 3) (turn_at bytes) (record { to = cell_at bytes 8; strike = None }) (record { bytes = slice_range bytes 13 45 }))
    else if has_head 3 46 bytes && (slice_index bytes 12 == 1)
    then Some (Reveal (slice_index bytes 3) (turn_at bytes) (record { to = cell_at bytes 8; strike = Some (cell_at bytes 13) }) (record { bytes = slice_range bytes 17 49 }))
    else None

-- the frame's numbers fit their fields, and its digest or nonce has 32 items, as those of every value of its type do
abbrev pub FitsFrame : TurnFrame → Type 0
FitsFrame (Commit p t d) = (p < 2 ^ 8) × (t < 2 ^ 32) × (length d.bytes ≡ 32)
FitsFrame (Reveal p t m n) = (p < 2 ^ 8) × (t < 2 ^ 32) × FitsCell m.to × FitsStrike m.strike × (length n.bytes ≡ 32)
