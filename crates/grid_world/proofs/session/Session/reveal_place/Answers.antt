use Rattle.std.proofs.Common.{arith}
use Rattle.definitions.proofs.Streams.{reveal_place-below}
use Rattle.grid_world.proofs.session.Session.reveal_place.Goals as goal

pub returns-clause-place : goal.returns-clause-place
returns-clause-place c = let at = reveal_place-below c.args.self.now c.args.turn c.requires in omega arith
