mod Players
mod Reported
pub mod Printed
pub mod Told
pub mod Alike
pub mod Tells
pub mod Verdicts
mod AuditOpened
mod CaseOpened
mod AuditMeant
mod AuditRun
mod Judged
mod Upgraded
pub mod AuditHolds
pub mod JudgeHolds
pub mod UpgradeHolds
mod SealedOpened
mod SealedFrom
pub mod SealedHolds
