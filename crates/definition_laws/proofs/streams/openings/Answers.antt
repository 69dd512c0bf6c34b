use Rattle.definitions.proofs.Codes.{opening-same}
use Rattle.definition_laws.proofs.streams.openings.Goals as goal

pub returns : goal.returns
returns c = opening-same
