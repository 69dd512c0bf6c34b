pub mod Words
pub mod Seats
pub mod Unplayed
pub mod SeatLaw
