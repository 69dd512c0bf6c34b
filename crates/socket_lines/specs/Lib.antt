pub mod Asks
pub mod Seats
pub mod Lines
pub mod Giving
