use Rattle.std.proofs.Common.{ap, ◌∙◌}
use Rattle.sha2.specs.Sha256.{sha256}
use Rattle.definitions.specs.World.{Game}
use Rattle.grid_world.specs.Text.{session_text}
use Rattle.grid_world.proofs.Later.{later_reads}
use Rattle.grid_world.proofs.upgrade.upgraded.Goals as goal

pub returns-clause-read : goal.returns-clause-read
returns-clause-read c =
    let digest = c.digest-id.ensures ∙ ap sha256 (c.in_ok-text.ensures ∙ ap (λ (g : Game). session_text g) c.in_ok-plain.ensures) in
    λ first. later_reads c.args.session.now c.args.session.now.id c.digest-id.result c.in_version_2-2.result c.facts.ensures (rw (← c.id.ensures) digest) c.in_version_2-2.ensures
