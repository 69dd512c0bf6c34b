use Rattle.definition_laws.proofs.Standing.{advanced_one_way, progress_caught, progress_made, progress_tells}
use Rattle.definition_laws.proofs.moments.standings.Goals as goal

pub returns-clause-one : goal.returns-clause-one
returns-clause-one c = advanced_one_way

pub returns-clause-tells : goal.returns-clause-tells
returns-clause-tells c game me h d i clean = ((λ f e. progress_made game me h f d clean e), progress_tells game me h d i clean)

pub returns-clause-caught : goal.returns-clause-caught
returns-clause-caught c = progress_caught
