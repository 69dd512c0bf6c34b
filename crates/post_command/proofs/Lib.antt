pub mod Polls
pub mod Failures
pub mod Kept
pub mod Played
mod Completing
pub mod PostHolds
mod OverDatagrams
