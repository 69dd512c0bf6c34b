pub mod Items
pub mod Counting
pub mod Legal
pub mod Standings
mod Table
