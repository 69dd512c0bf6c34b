use Rattle.definitions.specs.Answers.{place_of}
use Rattle.seal_keys.specs.Keys.{root_of}
use Rattle.seal_keys.specs.Seals.{message, seal_of}
use Rattle.seal_keys.proofs.Heights.{tree_height_enough}
use Rattle.seal_keys.proofs.Roots.{discloses_bits, length-seal_of, root_of_seal, valid_of}
use Rattle.seal_keys.proofs.laws.seals_are_valid.Goals as goal

pub returns-clause-valid : goal.returns-clause-valid
returns-clause-valid c = λ game seed f few turn place.
    valid_of game (root_of game seed) (seal_of game seed (place_of game f) (message game f)) f turn (length-seal_of game seed (place_of game f) (message game f))
    (root_of_seal game seed (place_of game f) (message game f) place (tree_height_enough game few))

pub returns-clause-disclosed : goal.returns-clause-disclosed
returns-clause-disclosed c = discloses_bits
