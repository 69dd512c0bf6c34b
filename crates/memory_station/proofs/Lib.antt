pub mod Tables
pub mod Fronts
pub mod Polls
pub mod Closings
pub mod Ties
