pub mod Plans
pub mod HeldRows
pub mod Rows
pub mod Answers
pub mod HeldStations
pub mod Stations
