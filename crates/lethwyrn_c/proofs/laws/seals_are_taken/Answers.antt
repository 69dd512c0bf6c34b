use Rattle.lethwyrn_c.proofs.Agreeing.{seals_taken}
use Rattle.lethwyrn_c.proofs.laws.seals_are_taken.Goals as goal

pub returns : goal.returns
returns c = seals_taken
