pub mod Calls
pub mod Reached
pub mod Ended
pub mod OneMore
pub mod Texts
