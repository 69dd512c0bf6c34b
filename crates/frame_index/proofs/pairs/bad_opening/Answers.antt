use Rattle.std.proofs.Common.{ap, sym, ◌∙◌}
use Rattle.definitions.specs.declared.findings.Kind.TheVariants.{BadOpening}
use Rattle.frame_index.specs.Keeps.{finding_by}
use Rattle.frame_index.proofs.Shown.{bad_opening_found}
use Rattle.frame_index.proofs.pairs.bad_opening.Goals as goal

pub returns : goal.returns
returns c game logs q t keeps = ap (finding_by q t BadOpening) c.bad_opening_pair.ensures ∙ sym (bad_opening_found game q t logs c.args.seen.now keeps)
