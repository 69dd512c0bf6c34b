use Rattle.evidence.proofs.Opened.{openings_show, shown_openings}
use Rattle.evidence.proofs.laws.illegal_exhibits_are_openings.Goals as goal

pub returns-clause-opened : goal.returns-clause-opened
returns-clause-opened c = shown_openings

pub returns-clause-shown : goal.returns-clause-shown
returns-clause-shown c = openings_show
