-- Found: the subcommand that clap finds in texts of the command set.
use Rattle.std.specs.Prelude.{List, [], ◌∷◌, Option, Some, None, codes}
use Rattle.clap.specs.Words.{Row, Text, all_of}
use Rattle.clap.specs.declared.builder.value_parser.Reading.TheVariants.{AsWritten}
use Rattle.clap.specs.declared.parser.matches.ValueSource.TheVariants.{CommandLine}
use Rattle.command_names.specs.declared.names.Name.{Name}
use Rattle.command_line.specs.Lines.{Line}
use Rattle.command_names.specs.Names.{named, text_of}

-- the words after a name, as the values of the argument `words`
abbrev pub words_row : List Text → Row
words_row words = record {
  id = codes "words";
  values = words;
  count = None;
  source = Some CommandLine;
  reading = AsWritten;
}

-- the subcommand of what a command line says
abbrev pub subcommand_for : Option Line → Option (Text × List Row)
subcommand_for None = None
subcommand_for (Some line) = Some (text_of line.name, words_row line.words ∷ [])

-- a command with its words, where both are there
abbrev pub line_of : Option Name → Option (List Text) → Option Line
line_of None words = None
line_of (Some name) None = None
line_of (Some name) (Some words) = Some (record { name = name; words = words })

-- what the command line of a subcommand says
abbrev pub line_in : Option (Text × List Row) → Option Line
line_in None = None
line_in (Some found) = line_of (named found.0) (all_of (codes "words") found.1)
