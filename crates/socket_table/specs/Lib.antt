pub mod Finding
pub mod Hearers
pub mod Opening
pub mod Sound
pub mod Staying
