use Rattle.std.proofs.Common.{◌∙◌, sym, arith}
use Rattle.command_names.specs.Names.{all_names}
use Rattle.command_line.proofs.Building.{one_more}
use Rattle.command_line.proofs.commands.command_set.Goals as goal

pub loop-name-preserved : goal.loop-name-preserved
loop-name-preserved c = record {
  left =
      sym (one_more c.loop-name.set c.in_ok-subcommand.subcommand c.in_ok-set.set all_names c.loop-name.name-index _ (omega (arith, c.loop-name-test.true))
      c.in_ok-subcommand.ensures.shape c.in_ok-subcommand.ensures.local c.in_ok-set.ensures)
      ∙ c.loop-name.invariant.left;
}
