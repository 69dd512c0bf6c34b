use Rattle.definition_laws.proofs.Distances.{meeting_is_meets, meets_is_meeting, sphere_is_walk, walk_is_sphere}
use Rattle.definition_laws.proofs.LegalMoves.{legal_is_walk, walk_is_legal}
use Rattle.definition_laws.proofs.geometry.influence.Goals as goal

pub returns-clause-spheres : goal.returns-clause-spheres
returns-clause-spheres c game q cells a = (sphere_is_walk game q cells a, walk_is_sphere game q cells a)

pub returns-clause-meetings : goal.returns-clause-meetings
returns-clause-meetings c game me q t h = (meets_is_meeting game me q t h, meeting_is_meets game me q t h)

pub returns-clause-moves : goal.returns-clause-moves
returns-clause-moves c game q track m = (legal_is_walk game q track m, walk_is_legal game q track m)
