use Rattle.std.proofs.Common.{List, ap, refl, subst, ◌∙◌}
use Rattle.std.specs.Prelude.{◌&&◌}
use Rattle.definitions.specs.declared.findings.Spot.{Spot}
use Rattle.frame_index.specs.Plain.{IsPlain, commit_spots, is_among, is_in}
use Rattle.frame_index.proofs.common.read_commit.Goals as goal

pub returns-clause-read : goal.returns-clause-read
returns-clause-read c = λ t. record {
  plain = subst IsPlain c.kept-kept.ensures (c.if-not-is_plain.ensures refl);
  track = refl;
  left = λ i. c.leave.ensures i ∙ ap (λ (spots : List Spot). is_among c.args.common.now.chosen i && is_in spots i) (c.commit_spots.ensures ∙ ap commit_spots c.kept-kept.ensures);
}
