-- SealedReports: a report that has the seals of its frames, as contracts see it.
use Rattle.std.specs.Prelude.{◌≡◌, ℕ, List, Option}
use Rattle.definitions.specs.declared.findings.Finding.{Finding}
use Rattle.definitions.specs.declared.logs.Entry.{Entry}
use Rattle.definitions.specs.Findings.{findings}
use Rattle.definitions.specs.World.{Game}
use Rattle.auditor.specs.Audits.{AuditState, StandsFor}
use Rattle.auditor.specs.Reports.{Reported}
use Rattle.accuser.specs.declared.taker.Taker.{Taker}
use Rattle.accuser.specs.SealBooks.{Book}

-- the auditor that took the frames, a seal of each, and what the auditor told
pub record SealedReported : Type 0 where
  pub audit : AuditState
  pub seals : Book
  pub report : Reported

-- the findings that it lists
abbrev pub found_in : SealedReported → List Finding
found_in r = r.report.found

-- the report is on what was taken: it lists the findings of whatever logs the auditor stands for
pub record IsReportOn (t : Taker) (r : SealedReported) : Type 0 where
  pub audit : r.audit ≡ t.auditor
  pub seals : r.seals ≡ t.seals
  pub found : (game : Game) (owners : List (Option ℕ)) (logs : List (List Entry)) → StandsFor game owners logs t.auditor → found_in r ≡ findings game logs
