use Rattle.std.proofs.Common.{[], refl}
use Rattle.log_files.proofs.audits.auditor_of.Goals as goal

pub returns-clause-ok : goal.returns-clause-ok
returns-clause-ok c = (
  c.in_ok-take_texts.ensures.ok.sound,
  c.in_ok-take_texts.ensures.ok.stands [] [] refl (record { audit = c.in-Ok.ensures.stands; owners_are = c.in-Ok.ensures.owners; each = refl }),
)
