use Rattle.std.proofs.Common.{◌∙◌, ap, arith, List, ℕ}
use Rattle.definitions.specs.Lists.{is_empty}
use Rattle.socket_lines.proofs.Fronts.{empty_behind}
use Rattle.socket_lines.proofs.unsent.Unsent.is_empty.Goals as goal

pub returns : goal.returns
returns c = empty_behind c.self.inside.from c.self.inside.to c.self.inside.bytes c.self.invariant.0 (omega (arith, c.self.invariant, c.self.told)) ∙ ap (λ (x : List ℕ). is_empty x) c.self.view_is
