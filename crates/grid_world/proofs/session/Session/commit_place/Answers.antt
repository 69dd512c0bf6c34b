use Rattle.std.proofs.Common.{arith}
use Rattle.definitions.proofs.Streams.{commit_place-below}
use Rattle.grid_world.proofs.session.Session.commit_place.Goals as goal

pub returns-clause-place : goal.returns-clause-place
returns-clause-place c = let at = commit_place-below c.args.self.now c.args.turn c.requires in omega arith
