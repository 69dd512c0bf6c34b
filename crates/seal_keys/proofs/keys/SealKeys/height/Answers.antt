use Rattle.std.proofs.Common.{◌∙◌, ap}
use Rattle.seal_keys.specs.Keys.{tree_height}
use Rattle.seal_keys.specs.States.{Keys}
use Rattle.seal_keys.proofs.keys.SealKeys.height.Goals as goal

pub returns : goal.returns
returns c = c.self.invariant.tree_is ∙ ap (λ (k : Keys). tree_height k.game) c.self.view_is
