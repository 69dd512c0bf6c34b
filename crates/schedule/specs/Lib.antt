pub mod Steps
pub mod Tallies
pub mod Stands
pub mod Seats
pub mod Tables
pub mod Theorem
