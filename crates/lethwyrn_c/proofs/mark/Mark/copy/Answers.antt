use Rattle.std.proofs.Common.{subst, sym}
use Rattle.session_log.specs.Writing.{Writing}
use Rattle.lethwyrn_c.specs.Fronts.{StandsAt}
use Rattle.lethwyrn_c.proofs.mark.Mark.copy.Goals as goal

pub returns-clause-stands : goal.returns-clause-stands
returns-clause-stands c = λ id me es s. subst (λ (w : Writing). StandsAt id me es c.args.self.now.entries w c.args.self.now.bytes) (sym c.copy-writer.ensures) s
