-- Reading: which sealed exhibit a text says, line by line, and its first line at fault.
use Rattle.std.specs.Prelude.{ℕ, suc, ◌+◌, ◌*◌, List, [], ◌∷◌, length, Option, None, Result, Ok, Err, nat_lt, ◌==◌, ◌&&◌, if◌then◌else◌, codes}
use Rattle.std.specs.Result.{result_ok}
use Rattle.std.specs.List.{list_all}
use Rattle.hex.specs.Hex.{decode_of}
use Rattle.definitions.specs.declared.frames.TurnFrame.{TurnFrame}
use Rattle.definitions.specs.World.{Game}
use Rattle.byte_fields.specs.Fronts.{behind}
use Rattle.byte_fields.specs.Fronts as fronts
use Rattle.text_lines.specs.Lines.{ended_lines_of}
use Rattle.text_lines.specs.Reading.{◌>>=◌, fault_of, line_at, or_fault}
use Rattle.text_fields.specs.declared.fault.TextFault.{TextFault}
use Rattle.text_fields.specs.declared.fault.TextFault.TheVariants.{At}
use Rattle.text_fields.specs.Hexes.{is_lower_digit}
use Rattle.evidence.specs.Reading.{before, frame_said, head_at, is_end}
use Rattle.seal_keys.specs.Seals.{seal_len}
use Rattle.sealed_evidence.specs.declared.sealed.SealedExhibit.{SealedExhibit}
use Rattle.sealed_text.specs.declared.limits.TheConstants.{MOST_SEALED_FRAMES}

-- the n bytes that lower-case digits spell
abbrev pub seal_of : (n : ℕ) → List ℕ → Option (List ℕ)
seal_of n digits = if (length digits == 2 * n) && list_all is_lower_digit digits then result_ok (decode_of digits) else None

-- the digits of a seal's line
abbrev pub digits_said : List ℕ → Option (List ℕ)
digits_said line = fronts.◌>>=◌ (behind (codes "seal ") line) (before (codes "\n"))

-- the seal of n bytes that a line says
unfoldable pub seal_said : (n : ℕ) → List ℕ → Option (List ℕ)
seal_said n line = fronts.◌>>=◌ (digits_said line) (seal_of n)

-- the number of the line after so many frames and their seals
abbrev pub line_after : (count : ℕ) → ℕ
line_after count = 2 * count + 5

-- the frame on the line after so many frames and their seals, of which there may be one more
unfoldable pub frame_at : (count : ℕ) → List ℕ → Result TurnFrame TextFault
frame_at count line = or_fault (At (line_after count)) (if nat_lt count MOST_SEALED_FRAMES then frame_said line else None)

-- the seal on the line after that frame's, which is the first of these lines, and those that follow
abbrev pub seal_at : (n count : ℕ) → List (List ℕ) → Result (List ℕ × List (List ℕ)) TextFault
seal_at n count lines = line_at (At (suc (line_after count))) (seal_said n) lines

-- the frames after so many, the seal of each, of n bytes, on the line after its own, and `end`
unfoldable pub pairs_at : (n count : ℕ) → List (List ℕ) → Result (List TurnFrame × List (List ℕ)) TextFault
pairs_at n count [] = Err (At (line_after count))
pairs_at n count (line ∷ []) = if is_end count line then Ok ([], []) else (do
  frame ← frame_at count line
  Err (At (suc (line_after count))))
pairs_at n count (line ∷ next ∷ lines) = if is_end count line then Err (At (suc (line_after count))) else (do
  frame ← frame_at count line
  seal ← or_fault (At (suc (line_after count))) (seal_said n next)
  others ← pairs_at n (suc count) lines
  Ok (frame ∷ others.0, seal ∷ others.1))

-- the sealed exhibit that these lines say, with seals of n bytes, or the first line at fault
unfoldable pub said_by : (n : ℕ) → List (List ℕ) → Result SealedExhibit TextFault
said_by n lines = do
  head ← head_at 2 lines
  pairs ← pairs_at n 0 head.1
  Ok (record { exhibit = record { player = head.0.player; turn = head.0.turn; kind = head.0.kind; frames = pairs.0 }; seals = pairs.1 })

-- the sealed exhibit of the session that a text says, or its first line at fault
abbrev pub sealed_at : Game → List ℕ → Result SealedExhibit TextFault
sealed_at game text = said_by (seal_len game) (ended_lines_of text)

-- the first line of a text that is at fault
abbrev pub sealed_fault : Game → List ℕ → Option TextFault
sealed_fault game text = fault_of (sealed_at game text)
