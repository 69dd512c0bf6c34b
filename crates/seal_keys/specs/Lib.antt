pub mod Parts
pub mod Keys
pub mod Seals
pub mod States
pub mod Departures
pub mod NodeTables
pub mod Laws
