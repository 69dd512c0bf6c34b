pub mod Digits
pub mod Decimals
pub mod Placed
pub mod Reading
