pub mod Prefixes
pub mod Standings
pub mod Fronts
pub mod Heard
pub mod Given
