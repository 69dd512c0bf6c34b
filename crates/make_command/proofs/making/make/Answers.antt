use Rattle.make_command.proofs.Summed.{few_lines}
use Rattle.make_command.proofs.making.make.Goals as goal

pub put_summary-requires : goal.put_summary-requires
put_summary-requires g c = few_lines c.args.number c.in-Ok.summary c.in-Ok.ensures
