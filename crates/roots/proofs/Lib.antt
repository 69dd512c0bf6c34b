pub mod Ends
pub mod Steps
pub mod Lines
pub mod Plain
pub mod Taken
pub mod Short
pub mod Printed
pub mod Worked
