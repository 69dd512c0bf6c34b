pub mod Options
pub mod Tests
pub mod Lists
pub mod Each
pub mod Pairs
pub mod Bits
