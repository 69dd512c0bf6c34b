mod Sourced
mod Rounds
mod Ended
pub mod WatchHolds
mod OverStation
