use Rattle.definition_laws.proofs.Authentic.{accepted_is_chosen, never_named}
use Rattle.definition_laws.proofs.logs.honest_players.Goals as goal

pub returns-clause-unnamed : goal.returns-clause-unnamed
returns-clause-unnamed c = never_named

pub returns-clause-accepted : goal.returns-clause-accepted
returns-clause-accepted c = accepted_is_chosen
