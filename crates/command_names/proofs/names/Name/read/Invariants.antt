use Rattle.std.proofs.Common.{◌≡◌, drop}
use Rattle.std.specs.List.{find}
use Rattle.command_names.specs.Names.{all_names, is_written, named}
use Rattle.command_names.proofs.names.Name.read.Given as goal

abbrev pub invariant-loop-name : goal.invariant-loop-name
invariant-loop-name l = record {
  left : find (is_written l.text) (drop l.name-index all_names) ≡ named l.text;
}
