use Rattle.seal_keys.specs.Keys.{root_of}
use Rattle.seal_keys.proofs.Departed.{valid_parts}
use Rattle.seal_blame.proofs.how.valid_seal_fits.Goals as goal

pub returns-clause-turn : goal.returns-clause-turn
returns-clause-turn c = (valid_parts c.args.keys.now.game (root_of c.args.keys.now.game c.args.keys.now.seed) c.args.frame.now c.args.seal.now c.requires).turn

pub returns-clause-length : goal.returns-clause-length
returns-clause-length c = (valid_parts c.args.keys.now.game (root_of c.args.keys.now.game c.args.keys.now.seed) c.args.frame.now c.args.seal.now c.requires).long
