pub mod Asks
pub mod Noted
