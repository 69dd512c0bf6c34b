use Rattle.std.proofs.Common.{[], ◌∷◌}
use Rattle.definitions.specs.Walk.{reaches}
use Rattle.definitions.proofs.Walks.{Walk-from, reaches-Walk, walked_at_least}
use Rattle.definition_laws.proofs.geometry.walks.Goals as goal

pub returns-clause-exact : goal.returns-clause-exact
unfolding reaches
returns-clause-exact c grid k a b = (Walk-from grid k a b, reaches-Walk grid k a b)

pub returns-clause-grows : goal.returns-clause-grows
unfolding reaches
returns-clause-grows c grid k n a b = walked_at_least grid k n (a ∷ []) b
