pub mod Unsents
pub mod Ended
