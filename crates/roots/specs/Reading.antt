-- Reading: which roots a text says, line by line, and its first line at fault.
use Rattle.std.specs.Prelude.{ℕ, zero, suc, ◌+◌, ◌-◌, List, [], ◌∷◌, ◌++◌, length, take, drop, Option, Some, None, Result, Ok, Err, ◌==◌, if◌then◌else◌, bytes_eq, codes, option_map}
use Rattle.definitions.specs.declared.limits.TheConstants.{GREATEST_PLAYER}
use Rattle.byte_fields.specs.Fronts as fronts
use Rattle.byte_fields.specs.Fronts.{behind}
use Rattle.text_lines.specs.Lines.{ended_lines_of, is_bare, one_within}
use Rattle.text_lines.specs.Reading.{◌>>=◌, ends_at, fault_of, line_at}
use Rattle.text_fields.specs.declared.fault.TextFault.{TextFault}
use Rattle.text_fields.specs.declared.fault.TextFault.TheVariants.{At}
use Rattle.text_fields.specs.Hexes.{nonce_of}
use Rattle.text_fields.specs.Numbers.{number_then}

-- what stands before this end
abbrev pub before : List ℕ → List ℕ → Option (List ℕ)
before end text =
    if bytes_eq (drop (length text - length end) text) end then Some (take (length text - length end) text) else None

-- the root of 64 lower-case digits: its 32 bytes are spelled as those of a nonce
abbrev pub root_of : List ℕ → Option (List ℕ)
root_of digits = option_map (λ spelled. spelled.bytes) (nonce_of digits)

-- the root whose digits stand before the end of a line
abbrev pub root_ended : List ℕ → Option (List ℕ)
root_ended text = fronts.◌>>=◌ (before (codes "\n") text) root_of

-- the root that a line says of player q
unfoldable pub root_said : (q : ℕ) → List ℕ → Option (List ℕ)
root_said q line =
    fronts.◌>>=◌ (behind (codes "root ") line) (λ rest.
    fronts.◌>>=◌ (number_then GREATEST_PLAYER rest) (λ player. if player.0 == q then root_ended player.1 else None))

-- the number of the line of player q, and of `end` where there are q players
abbrev pub line_number : (q : ℕ) → ℕ
line_number q = q + 2

-- the root of player q on the next line, and the lines that follow
abbrev pub root_at : (q : ℕ) → List (List ℕ) → Result (List ℕ × List (List ℕ)) TextFault
root_at q lines = line_at (At (line_number q)) (root_said q) lines

-- the roots, and that of player q after them
unfoldable pub with_root : (q : ℕ) → List (List ℕ) → List (List ℕ) → Result (List (List ℕ) × List (List ℕ)) TextFault
with_root q roots lines = do
  root ← root_at q lines
  Ok (roots ++ (root.0 ∷ []), root.1)

-- the roots of the players below this number, and the lines that follow
unfoldable pub first_roots : (players : ℕ) → List (List ℕ) → Result (List (List ℕ) × List (List ℕ)) TextFault
first_roots zero lines = Ok ([], lines)
first_roots (suc q) lines = do
  so_far ← first_roots q lines
  with_root q so_far.0 so_far.1

-- the last line, which is line n
unfoldable pub end_at : (n : ℕ) → List (List ℕ) → Result (List ℕ) TextFault
end_at n [] = Err (At n)
end_at n (line ∷ lines) = if is_bare (codes "end") line then ends_at (At (suc n)) lines else Err (At n)

-- the roots of so many players that these lines say, or the first of them at fault
unfoldable pub said_by : (players : ℕ) → List (List ℕ) → Result (List (List ℕ)) TextFault
said_by players lines = do
  version ← line_at (At 1) (one_within (codes "roots") 1 1) lines
  roots ← first_roots players version.1
  end ← end_at (line_number players) roots.1
  Ok roots.0

-- the roots of so many players that a text says, or its first line at fault
abbrev pub roots_at : (players : ℕ) → List ℕ → Result (List (List ℕ)) TextFault
roots_at players text = said_by players (ended_lines_of text)

-- the first line of a text that is at fault
abbrev pub roots_fault : (players : ℕ) → List ℕ → Option TextFault
roots_fault players text = fault_of (roots_at players text)
