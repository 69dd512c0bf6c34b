use Rattle.dilation.proofs.Reached.{dilated_starts}
use Rattle.dilation.proofs.standing.Dilation.new.Goals as goal

pub returns-clause-dilated : goal.returns-clause-dilated
returns-clause-dilated c = dilated_starts c.args.session.now _ _ c.facts.ensures c.in_ok-cells.ensures c.in_ok-kept.ensures
