pub mod Choices
pub mod Plays
pub mod LineOutcomes
pub mod Fair
pub mod Ends
pub mod Tellings
pub mod Parts
pub mod Digits
pub mod Streams
pub mod Runs
pub mod Commanded
pub mod Lines
pub mod DriveHolds
mod Driving
