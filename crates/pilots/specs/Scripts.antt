-- Scripts: a moves text: how it is spelled, what it says, and what is chosen by it.
use Rattle.std.specs.Prelude.{◌≡◌, ℕ, zero, suc, ◌&&◌, List, [], ◌∷◌, length, map, take, Option, Some, None, Result, Ok, nat_le, if◌then◌else◌}
use Rattle.std.specs.Fmt.{decimal}
use Rattle.byte_fields.specs.declared.numbers.Number.{Number}
use Rattle.byte_fields.specs.Fronts as fronts
use Rattle.byte_fields.specs.Standing.{number_at}
use Rattle.definitions.specs.declared.world.Cell.{Cell}
use Rattle.definitions.specs.declared.world.Move.{Move}
use Rattle.definitions.specs.declared.world.Track.{Track}
use Rattle.definitions.specs.Lists.{EachIs, item_or}
use Rattle.definitions.specs.Openings.{FitsCell, FitsStrike}
use Rattle.text_lines.specs.Lines.{ended_lines_of, joined, line_of, one_of, three_of}
use Rattle.text_lines.specs.Reading.{◌>>=◌, ends_at, fault_of, line_at}
use Rattle.text_fields.specs.declared.fault.TextFault.{TextFault}
use Rattle.text_fields.specs.declared.fault.TextFault.TheVariants.{At}

-- ---- what is chosen

-- to stay, without a strike
abbrev pub staying : Track → Move
staying track = record { to = track.at; strike = None }

-- the move of the turn, and past the last move to stay
abbrev pub scripted : List Move → Track → (turn : ℕ) → Move
scripted moves track turn = item_or moves turn (staying track)

-- ---- how it is spelled

-- the numbers of a strike, where there is one
abbrev pub strike_numbers : Option Cell → List ℕ
strike_numbers None = []
strike_numbers (Some c) = c.x ∷ c.y ∷ []

-- a move's line: the numbers of its target, and behind them those of its strike, if it strikes
abbrev pub move_line : Move → List ℕ
move_line mv = line_of (decimal mv.to.x) (mv.to.y ∷ strike_numbers mv.strike)

-- a line for each move
unfoldable pub moves_text : List Move → List ℕ
moves_text moves = joined (map move_line moves)

-- a move whose numbers fit two bytes
abbrev pub FitsMove : Move → Type 0
FitsMove mv = FitsCell mv.to × FitsStrike mv.strike

-- this is a text of these moves, one for each turn
pub record IsReadFrom (turns : ℕ) (moves : List Move) (text : List ℕ) : Type 0 where
  pub count : length moves ≡ turns
  pub fits : EachIs FitsMove moves
  pub text_is : text ≡ moves_text moves

-- ---- what it says

-- the cell of these numbers, where they fit two bytes
abbrev pub cell_of : (x y : ℕ) → Option Cell
cell_of x y = if nat_le x 65535 && nat_le y 65535 then Some (record { x = x; y = y }) else None

-- a move to this cell, where there is one
abbrev pub step_to : Option Cell → Option Move
step_to None = None
step_to (Some to) = Some (record { to = to; strike = None })

-- a move to this cell that strikes that one, where there are both
abbrev pub strike_at : Option Cell → Option Cell → Option Move
strike_at None at = None
strike_at (Some to) None = None
strike_at (Some to) (Some at) = Some (record { to = to; strike = Some at })

-- the move of a number and of the one number, or the three, that stand behind it
abbrev pub move_of : ℕ → Option ℕ → Option (ℕ × ℕ × ℕ) → Option Move
move_of x (Some y) three = step_to (cell_of x y)
move_of x None None = None
move_of x None (Some three) = strike_at (cell_of x three.0) (cell_of three.1 three.2)

-- the move of a line that begins with this number
abbrev pub move_behind : List ℕ → Number → Option Move
move_behind line n = move_of n.value (one_of (take n.end line) line) (three_of (take n.end line) line)

-- the move that a line says: two numbers, or four
unfoldable pub move_said : List ℕ → Option Move
move_said line = fronts.◌>>=◌ (number_at line 0) (move_behind line)

-- the moves of so many lines, of which the first is line n, and no line behind them
unfoldable pub moves_at : (count n : ℕ) → List (List ℕ) → Result (List Move) TextFault
moves_at zero n lines = ends_at (At n) lines
moves_at (suc k) n lines = do
  first ← line_at (At n) move_said lines
  others ← moves_at k (suc n) first.1
  Ok (first.0 ∷ others)

-- the moves that a text says, one for each turn, or its first line at fault
abbrev pub script_at : (turns : ℕ) → List ℕ → Result (List Move) TextFault
script_at turns text = moves_at turns 1 (ended_lines_of text)

-- the first line of a text that is at fault
abbrev pub script_fault : (turns : ℕ) → List ℕ → Option TextFault
script_fault turns text = fault_of (script_at turns text)
