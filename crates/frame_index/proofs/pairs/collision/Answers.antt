use Rattle.std.proofs.Common.{ap, sym, ◌∙◌}
use Rattle.definitions.specs.declared.findings.Kind.TheVariants.{Collision}
use Rattle.frame_index.specs.Keeps.{finding_by}
use Rattle.frame_index.proofs.Shown.{collision_apart, collision_found}
use Rattle.frame_index.proofs.pairs.collision.Goals as goal

pub returns-then-branch : goal.returns-then-branch
returns-then-branch c game logs q t keeps = sym (collision_apart game q t logs c.args.seen.now keeps (c.in_ok-are_apart.ensures.apart c.if-branch.true))

pub returns : goal.returns
returns c game logs q t keeps = ap (finding_by q t Collision) c.collision_pair.ensures ∙ sym (collision_found game q t logs c.args.seen.now keeps)
