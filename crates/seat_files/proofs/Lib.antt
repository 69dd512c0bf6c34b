pub mod Seated
pub mod Refused
pub mod Legal
pub mod SeatHolds
pub mod Worked
pub mod Named
