use Rattle.std.proofs.Common.{ap, sym, ◌∙◌}
use Rattle.definitions.specs.declared.findings.Kind.TheVariants.{TwoCommits}
use Rattle.frame_index.specs.Keeps.{finding_by}
use Rattle.frame_index.proofs.Shown.{two_commits_found}
use Rattle.frame_index.proofs.pairs.two_commits.Goals as goal

pub returns : goal.returns
returns c game logs q t keeps = ap (finding_by q t TwoCommits) c.two_commits_pair.ensures ∙ sym (two_commits_found game q t logs c.args.seen.now keeps)
