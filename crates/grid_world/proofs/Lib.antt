pub mod Facts
pub mod Taken
pub mod Kept
pub mod Again
pub mod Found
pub mod Printed
pub mod Later
pub mod Reveals
pub mod NextSlots
pub mod Rows
pub mod Steps
pub mod Loops
mod Table
