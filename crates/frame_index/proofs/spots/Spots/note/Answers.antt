use Rattle.std.proofs.Common.{ap, arith, subst, sym}
use Rattle.definitions.specs.declared.findings.Spot.{Spot}
use Rattle.frame_index.specs.Spots.{AreUpTo}
use Rattle.frame_index.proofs.Spotted.{up_to_more}
use Rattle.frame_index.proofs.spots.Spots.note.Goals as goal

pub invariant_of-self-2 : goal.invariant_of-self-2
invariant_of-self-2 c =
    subst (AreUpTo c.max-self-inside.result) (sym c.in_ok-push.ensures.ok)
    (up_to_more c.self.inside.list c.new.result c.self.inside.top c.max-self-inside.result (omega (arith, c.max-self-inside.ensures))
    (let log = ap (λ (s : Spot). s.log) c.new.ensures in omega (arith, log, c.max-self-inside.ensures)) c.self.invariant)
