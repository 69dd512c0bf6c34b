use Rattle.definition_laws.proofs.Collided.{accused_named, collision_strings}
use Rattle.definition_laws.proofs.Least.{Has_findings, finding_is_least, findings_Has, least_is_finding}
use Rattle.definition_laws.proofs.Listed.{findings_ordered, findings_shown}
use Rattle.definition_laws.proofs.logs.accusations.Goals as goal

pub returns-clause-listed : goal.returns-clause-listed
returns-clause-listed c game logs = (findings_ordered game logs, findings_shown game logs)

pub returns-clause-least : goal.returns-clause-least
returns-clause-least c game logs f = (
  λ m. let w = findings_Has game logs f m in (w.0, w.1, finding_is_least game logs f.player f.turn f.kind f w.2),
  λ w. Has_findings game logs f.player f.turn f.kind f w.0 w.1 (least_is_finding game logs f w.2),
)

pub returns-clause-found : goal.returns-clause-found
returns-clause-found c = accused_named

pub returns-clause-collisions : goal.returns-clause-collisions
returns-clause-collisions c = collision_strings
