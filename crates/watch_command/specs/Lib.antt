pub mod Words
pub mod Opened
pub mod Watches
pub mod Plays
pub mod WatchLaw
