pub mod Slots
pub mod Clashes
pub mod Steps
pub mod Windows
pub mod Logged
