pub mod Grids
pub mod Sessions
pub mod Places
pub mod Streams
pub mod Text
pub mod Reading
pub mod Parts
pub mod Answers
