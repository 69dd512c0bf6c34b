-- Lines: what the command lines say that clap split.
use Rattle.std.specs.Prelude.{Option}
use Rattle.command_line.specs.Lines.{Line}
use Rattle.peer_runs.specs.Commands.{Command, command_in}

-- the command of a command line
abbrev pub command_on : Line → Option Command
command_on line = command_in line.name line.words
