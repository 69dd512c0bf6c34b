-- Laws of fields: what is spelled is read, and what is read was spelled so.
use Rattle.std.specs.Prelude.{ℕ, ◌≡◌, ◌≤◌, ◌<◌, ◌^◌, List, ◌++◌, Some, length}
use Rattle.std.specs.Fmt.{decimal}
use Rattle.hex.specs.Hex.{IsBytes, encode_lower}
use Rattle.definitions.specs.declared.world.Cell.{Cell}
use Rattle.definitions.specs.declared.openings.Nonce.{Nonce}
use Rattle.definitions.specs.declared.frames.TurnFrame.{TurnFrame}
use Rattle.definitions.specs.declared.world.Move.{Move}
use Rattle.definitions.specs.Openings.{FitsCell, FitsStrike}
use Rattle.commitment.specs.Spelling.{frame_bytes, FitsFrame}
use Rattle.text_fields.specs.Numbers.{number_of, number_then}
use Rattle.text_fields.specs.Cells.{cell_then}
use Rattle.text_fields.specs.Hexes.{nonce_of, frame_of, bytes_of}
use Rattle.text_fields.specs.Spelling.{number_text, cell_text, FitsNonce}
use Rattle.text_fields.specs.Choices.{choice_text, move_then_nonce}

-- a number before a space is read as it is, and so is what stands behind
abbrev pub NumbersAreRead : Type 0
NumbersAreRead = (limit n : ℕ) (rest : List ℕ) → n ≤ limit → limit < 2 ^ 32 → number_then limit (number_text n ++ rest) ≡ Some (n, rest)

-- a number that is read stands there before a space, and is at most the limit
abbrev pub NumbersAreSpelled : Type 0
NumbersAreSpelled = (limit : ℕ) (text : List ℕ) (x : ℕ × List ℕ) → number_then limit text ≡ Some x → (text ≡ number_text x.0 ++ x.1) × (x.0 ≤ limit)

-- a text that is a number is read as it
abbrev pub LoneNumbersAreRead : Type 0
LoneNumbersAreRead = (limit n : ℕ) → n ≤ limit → limit < 2 ^ 32 → number_of limit (decimal n) ≡ Some n

-- a text that is read as a number is its one form, and the number is at most the limit
abbrev pub LoneNumbersAreSpelled : Type 0
LoneNumbersAreSpelled = (limit : ℕ) (text : List ℕ) (n : ℕ) → number_of limit text ≡ Some n → (text ≡ decimal n) × (n ≤ limit)

-- a cell before a space is read as it is, and so is what stands behind
abbrev pub CellsAreRead : Type 0
CellsAreRead = (c : Cell) (rest : List ℕ) → FitsCell c → cell_then (cell_text c ++ rest) ≡ Some (c, rest)

-- a cell that is read stands there before a space
abbrev pub CellsAreSpelled : Type 0
CellsAreSpelled = (text : List ℕ) (x : Cell × List ℕ) → cell_then text ≡ Some x → (text ≡ cell_text x.0 ++ x.1) × FitsCell x.0

-- a nonce's digits are read as it
abbrev pub NoncesAreRead : Type 0
NoncesAreRead = (nonce : Nonce) → FitsNonce nonce → nonce_of (encode_lower nonce.bytes) ≡ Some nonce

-- a text that is read as a nonce is its digits
abbrev pub NoncesAreSpelled : Type 0
NoncesAreSpelled = (text : List ℕ) (nonce : Nonce) → nonce_of text ≡ Some nonce → FitsNonce nonce × (text ≡ encode_lower nonce.bytes)

-- the digits of a frame's bytes are read as the frame
abbrev pub FramesAreRead : Type 0
FramesAreRead = (frame : TurnFrame) → FitsFrame frame → IsBytes (frame_bytes frame) → frame_of (encode_lower (frame_bytes frame)) ≡ Some frame

-- a text that is read as a frame is the digits of its bytes
abbrev pub FramesAreSpelled : Type 0
FramesAreSpelled = (text : List ℕ) (frame : TurnFrame) → frame_of text ≡ Some frame →
    FitsFrame frame × IsBytes (frame_bytes frame) × (text ≡ encode_lower (frame_bytes frame))

-- the digits of one byte or more are read as the bytes
abbrev pub BytesAreRead : Type 0
BytesAreRead = (bytes : List ℕ) → 0 < length bytes → IsBytes bytes → bytes_of (encode_lower bytes) ≡ Some bytes

-- a text that is read as bytes is their digits
abbrev pub BytesAreSpelled : Type 0
BytesAreSpelled = (text bytes : List ℕ) → bytes_of text ≡ Some bytes → (0 < length bytes) × IsBytes bytes × (text ≡ encode_lower bytes)

-- the text of a move and a nonce is read as them
abbrev pub ChoicesAreRead : Type 0
ChoicesAreRead = (mv : Move) (nonce : Nonce) → FitsCell mv.to → FitsStrike mv.strike → FitsNonce nonce → move_then_nonce (choice_text mv nonce) ≡ Some (mv, nonce)

-- a text that is read as a move and a nonce is their text, and they are within their limits
abbrev pub ChoicesAreSpelled : Type 0
ChoicesAreSpelled = (text : List ℕ) (c : Move × Nonce) → move_then_nonce text ≡ Some c →
    FitsCell c.0.to × FitsStrike c.0.strike × FitsNonce c.1 × (text ≡ choice_text c.0 c.1)
