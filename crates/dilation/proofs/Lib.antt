pub mod Still
pub mod Seats
pub mod Items
pub mod Followed
pub mod Reached
