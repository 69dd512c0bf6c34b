use Rattle.std.proofs.Common.{ap, subst, sym, ◌∙◌}
use Rattle.std.proofs.lemmas.Bool.{lt-leb}
use Rattle.frame_index.specs.Spots.{AreUpTo, Spotted}
use Rattle.frame_index.proofs.Spotted.{none_above}
use Rattle.frame_index.proofs.spots.Spots.has.Goals as goal

pub returns-else-log-self : goal.returns-else-log-self
returns-else-log-self c =
    let same = ap (λ (s : Spotted). s.items) c.self.view_is in
    lt-leb _ _ c.if-log-self.false ∙ sym (none_above c.args.self.now.items c.self.inside.top c.args.log (subst (AreUpTo c.self.inside.top) same c.self.invariant) c.if-log-self.false)
