pub mod Least
pub mod Legal
pub mod MoveLines
pub mod Scripts
pub mod Decided
pub mod Faulty
