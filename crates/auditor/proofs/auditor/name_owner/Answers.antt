use Rattle.std.specs.Prelude.{None}
use Rattle.auditor.proofs.Counted.{put_within}
use Rattle.auditor.proofs.auditor.name_owner.Goals as goal

pub returns : goal.returns
returns c = put_within None c.args.owners.now c.args.log _ c.requires
