-- Laws of pilots: what decides what a moves text says, and that its moves are read back.
use Rattle.std.specs.Prelude.{◌≡◌, ℕ, ◌+◌, ◌-◌, ◌≤◌, List, length, take, slice_get, Some, None, is_some, Ok, IsTrue}
use Rattle.definitions.specs.declared.limits.TheConstants.{MOST_TURNS}
use Rattle.definitions.specs.declared.world.Move.{Move}
use Rattle.definitions.specs.Lists.{EachIs}
use Rattle.text_lines.specs.Lines.{ended_lines_of}
use Rattle.text_fields.specs.declared.fault.TextFault.TheVariants.{At}
use Rattle.pilots.specs.declared.limits.TheConstants.{MOVES_FRONT}
use Rattle.pilots.specs.Scripts.{FitsMove, move_said, moves_text, script_at, script_fault}

-- the front of a text decides what it says, or which of its lines is at fault
abbrev pub FrontsDecide : Type 0
FrontsDecide = (turns : ℕ) (text : List ℕ) → turns ≤ MOST_TURNS → script_at turns (take MOVES_FRONT text) ≡ script_at turns text

-- the text of as many moves as there are turns says these moves
abbrev pub MovesAreRead : Type 0
MovesAreRead = (turns : ℕ) (moves : List Move) → length moves ≡ turns → EachIs FitsMove moves → script_at turns (moves_text moves) ≡ Ok moves

-- Line n of these is the first at fault where one move is wanted for each turn: those before it say moves, and it says none, or is
-- missing, or is one too many.
pub record IsFirstFault (turns : ℕ) (lines : List (List ℕ)) (n : ℕ) : Type 0 where
  pub number : (1 ≤ n) × (n ≤ turns + 1)
  pub stand : n ≤ length lines + 1
  pub before : EachIs (λ line. IsTrue (is_some (move_said line))) (take (n - 1) lines)
  pub faulty : n ≤ turns → (line : List ℕ) → slice_get lines (n - 1) ≡ Some line → move_said line ≡ None
  pub past : n ≡ turns + 1 → n ≤ length lines

-- the line that is said to be at fault is the first at fault
abbrev pub FirstFaultsAreFirst : Type 0
FirstFaultsAreFirst = (turns : ℕ) (text : List ℕ) (n : ℕ) → script_fault turns text ≡ Some (At n) → IsFirstFault turns (ended_lines_of text) n
