pub mod Verdicts
pub mod Windows
