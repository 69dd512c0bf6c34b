pub mod Addresses
pub mod Entries
pub mod Order
pub mod Passes
pub mod Phases
pub mod Steps
