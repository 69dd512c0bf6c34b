pub mod Making
pub mod Words
pub mod Matches
pub mod Bounds
pub mod Audits
pub mod Summaries
pub mod Make
pub mod MakeLaw
