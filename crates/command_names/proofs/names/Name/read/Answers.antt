use Rattle.std.proofs.Common.{sym, ◌∙◌}
use Rattle.command_names.specs.Names.{all_names, is_written}
use Rattle.command_names.proofs.Searching.{found_after}
use Rattle.command_names.proofs.names.Name.read.Goals as goal

pub loop-name-preserved : goal.loop-name-preserved
loop-name-preserved c = record {
  left = found_after (is_written c.args.text.now) all_names c.loop-name.name-index _ c.loop-name-test.true (sym c.is_written.ensures ∙ c.if-is_written.false) ∙ c.loop-name.invariant.left;
}
