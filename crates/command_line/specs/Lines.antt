-- Lines: what a command line says.
use Rattle.std.specs.Prelude.{ℕ, List, [], ◌∷◌, length, map, Option, Some, None, if◌then◌else◌}
use Rattle.command_line.specs.declared.lines.CommandLine.{CommandLine}
use Rattle.command_names.specs.declared.names.Name.{Name}
use Rattle.command_line.specs.declared.words.OwnLine.{OwnLine}
use Rattle.std.specs.Prelude.{option_and_then}
use Rattle.command_names.specs.Names.{named, takes}
use Rattle.station.specs.Words.{texts_of}

-- a command, and the words after its name
pub record Line : Type 0 where
  pub name : Name
  pub words : List (List ℕ)

-- what the command line says
abbrev pub said : CommandLine → Line
said line = record { name = line.name; words = map (λ t. t.now) line.words.items }

abbrev pub owned : OwnLine → Line
owned line = record { name = line.name; words = map (λ w. w.items) line.words.items }

-- the command with these words, if it takes so many
abbrev pub line_with : Option Name → List (List ℕ) → Option Line
line_with None words = None
line_with (Some name) words = if takes name (length words) then Some (record { name = name; words = words }) else None

-- the command and its words, where the first word is a command's name and the others are as many as it takes
abbrev pub split_of : List (List ℕ) → Option Line
split_of [] = None
split_of (name ∷ words) = line_with (named name) words

-- the command line of the program's words, where all are UTF-8 and none begins with `-`
abbrev pub line_of_words : List (List ℕ) → Option Line
line_of_words words = option_and_then split_of (texts_of words)
