use Rattle.std.proofs.Common.{◌≡◌, drop}
use Rattle.clap.specs.Simple.{app_of}
use Rattle.command_line.specs.Commands as C
use Rattle.command_names.specs.Names.{all_names}
use Rattle.command_line.proofs.Building.{with_names}
use Rattle.command_line.proofs.commands.command_set.Given as goal

abbrev pub invariant-loop-name : goal.invariant-loop-name
invariant-loop-name l = record {
  left : with_names (app_of l.set) (drop l.name-index all_names) ≡ C.command_set;
}
