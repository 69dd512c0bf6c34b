use Rattle.definitions.proofs.Streams.{commit_place-plain, reveal_place-plain, frame_of_place}
use Rattle.definition_laws.proofs.streams.places.Goals as goal

pub returns-clause-alternate : goal.returns-clause-alternate
returns-clause-alternate c game t one = (commit_place-plain game t one, reveal_place-plain game t one)

pub returns-clause-each : goal.returns-clause-each
returns-clause-each c = frame_of_place
